-- What document 02 says of straight wires (T-07): which columns one crosses on a sheet of either mark; and that of an assignment to ask
-- whether a net has two pins is to ask whether it has more than one, since no column has three.
-- Assumes nothing.
use Rattle.std.proofs.Common.{◌≡◌, ℕ, suc, ◌<◌, ◌≤◌, min, max, Bool, true, false, cond, ◌&&◌, eqb, ltb, List, [], ◌∷◌, ◌++◌, length, take, drop, refl, ap, ◌∙◌, arith, length-append, take-append-drop, ltb-false, ltb-true}
use Rattle.std.proofs.Math.Bool.{and-true, and-false}
use Rattle.std.proofs.lemmas.Bool.Decides.{nat_tests}
use Rattle.kind.specs.declared.Kind.TheVariants.{Plain}
use Rattle.kind.specs.Kinds.{kind_of, left_start, right_start}
use Rattle.mark.specs.Marks.{counts_straight}
use Rattle.channel.specs.Sheet.{Terminal, Sheet, Sound, nets, all_nets}
use Rattle.channel.specs.Assignment.{is_assignment, top_columns, bottom_columns}
use Rattle.channel.specs.Density.{Pin, pins, pin_count, straight_in, crosses}
use Rattle.channel.specs.Spans.{net_columns, leftmost, rightmost}
use Rattle.channel.proofs.Columns.{Rises, rises_bound}
use Rattle.channel.proofs.Assignments.{fits_lengths, fits_rises}
use Rattle.channel.proofs.Crossings.{one_pin, two_pins}
use Rattle.channel.proofs.Spans.{pick_from, end_columns, crosses-span}

-- a net has as many pins as terminals, where each terminal has a column
pins-counted : (ts : List Terminal) (cs : List ℕ) (n : ℕ) → length cs ≡ length ts → pin_count n (nets ts) ≡ length (net_columns n (pins ts cs))
pins-counted [] cs n h = refl
pins-counted (t ∷ ts) [] n h = absurd (omega arith)
pins-counted (t ∷ ts) (c ∷ cs) n h = rw (pins-counted ts cs n (omega arith)) (go (eqb t.net n))
  where
    go : (b : Bool)
        → let ks : List ℕ = net_columns n (pins ts cs) in
        cond b (suc (length ks)) (length ks) ≡ length (cond b (c ∷ ks) ks)
    go true = refl
    go false = refl

-- the columns of one net's pins on a side rise, as those of all its pins do
rises_from : (a b : ℕ) (cs : List ℕ) (l : ℕ) → a ≤ b → Rises b cs l → Rises a cs l
rises_from a b [] l h r = omega arith
rises_from a b (c ∷ cs) l h r = (omega (arith, r.0), r.1)

net-rises : (n b l : ℕ) (ts : List Terminal) (cs : List ℕ) → Rises b cs l → Rises b (net_columns n (pins ts cs)) l
net-rises n b l [] cs r = rises_bound b cs l r
net-rises n b l (t ∷ ts) [] r = r
net-rises n b l (t ∷ ts) (c ∷ cs) r = go (eqb t.net n) (net-rises n c l ts cs r.1)
  where
    ks : List ℕ
    ks = net_columns n (pins ts cs)

    go : (x : Bool) → Rises c ks l → Rises b (cond x (c ∷ ks) ks) l
    go true h = (r.0, h)
    go false h = rises_from b c ks l (omega (arith, r.0)) h

-- one pick after the other over two lists, and how far it goes
pick-append : (pick : ℕ → ℕ → ℕ) (k : ℕ) (xs ys : List ℕ) → pick_from pick k (xs ++ ys) ≡ pick_from pick (pick_from pick k xs) ys
pick-append pick k [] ys = refl
pick-append pick k (x ∷ xs) ys = pick-append pick (pick k x) xs ys

min-below : (k : ℕ) (ks : List ℕ) → pick_from min k ks ≤ k
min-below k [] = omega arith
min-below k (j ∷ ks) = omega (arith, min-below (min k j) ks)

max-above : (k : ℕ) (ks : List ℕ) → k ≤ pick_from max k ks
max-above k [] = omega arith
max-above k (j ∷ ks) = omega (arith, max-above (max k j) ks)

-- of two columns that rise the least is left of the greatest
apart : (a b : ℕ) (ks : List ℕ) (c l : ℕ) → Rises c ks l → 2 ≤ length ks → pick_from min a ks < pick_from max b ks
apart a b [] c l r h = absurd (omega arith)
apart a b (j ∷ []) c l r h = absurd (omega arith)
apart a b (j ∷ k ∷ ks) c l r h = omega (arith, r.1.0, min-below (min (min a j) k) ks, max-above (max (max b j) k) ks)

-- and so of two lists of which one has two columns
apart-either : (a b : ℕ) (xs ys : List ℕ) (l : ℕ) → Rises 0 xs l → Rises 0 ys l → 3 ≤ length (xs ++ ys)
    → pick_from min a (xs ++ ys) < pick_from max b (xs ++ ys)
apart-either a b xs ys l r q h = rw (pick-append min a xs ys, pick-append max b xs ys) (go (ltb 1 (length xs)) refl)
  where
    x : ℕ
    x = pick_from min a xs

    y : ℕ
    y = pick_from max b xs

    go : (t : Bool) → ltb 1 (length xs) ≡ t → pick_from min x ys < pick_from max y ys
    go true e = omega (arith, apart a b xs 0 l r (ltb-true 1 (length xs) e), min-below x ys, max-above y ys)
    go false e = apart x y ys 0 l q (omega (arith, ltb-false 1 (length xs) e, length-append xs ys))

-- the pins of two sides are those of the one and then those of the other
net-sides : (n : ℕ) (ts us : List Terminal) (xs ys : List ℕ) → length xs ≡ length ts
    → net_columns n (pins (ts ++ us) (xs ++ ys)) ≡ net_columns n (pins ts xs) ++ net_columns n (pins us ys)
net-sides n [] us [] ys h = refl
net-sides n [] us (x ∷ xs) ys h = absurd (omega arith)
net-sides n (t ∷ ts) us [] ys h = absurd (omega arith)
net-sides n (t ∷ ts) us (x ∷ xs) ys h = rw (net-sides n ts us xs ys (omega arith)) (go (eqb t.net n))
  where
    go : (b : Bool)
        → let ks : List ℕ = net_columns n (pins ts xs) in
        let js : List ℕ = net_columns n (pins us ys) in
        cond b (x ∷ ks ++ js) (ks ++ js) ≡ cond b (x ∷ ks) ks ++ js
    go true = refl
    go false = refl

-- of a plain net on a sheet with a column for each terminal
module _ (s : Sheet) (cs : List ℕ) (size : length cs ≡ length (s.top ++ s.bottom)) (n : ℕ) (plain : kind_of n ≡ Plain) where
  abbrev ps : List Pin
  ps = pins (s.top ++ s.bottom) cs

  counted : pin_count n (all_nets s) ≡ length (net_columns n ps)
  counted = pins-counted (s.top ++ s.bottom) cs n size

  -- "there such a net counts in that column", and in no other, and "CP sheets keep their rule": it counts in none
  pub straight-wire : (c : ℕ) → net_columns n ps ≡ c ∷ c ∷ [] → (k : ℕ) → crosses (straight_in s) ps n k ≡ (counts_straight s.mark && eqb c k)
  straight-wire c e k = two_pins (straight_in s) ps n c plain e k ∙ rw (counted, e, and-true)

  -- "A net with one pin crosses nothing, and takes no track", on a sheet of either mark
  pub single-pin : length (net_columns n ps) ≡ 1 → (c : ℕ) → crosses (straight_in s) ps n c ≡ false
  single-pin e = one_pin (straight_in s) ps n plain (rw (counted, e) (and-false _)) e

-- of an assignment of a sound sheet
module _ (s : Sheet) (sound : Sound s) (cs : List ℕ) (assigned : is_assignment s cs ≡ true) where
  abbrev all_pins : List Pin
  all_pins = pins (s.top ++ s.bottom) cs

  -- no column has three pins: a net with so many has two in different columns
  pub three_pins : (n : ℕ) → 3 ≤ pin_count n (all_nets s) → leftmost n all_pins < rightmost n all_pins
  unfolding is_assignment top_columns bottom_columns leftmost rightmost
  three_pins n h =
      let tops : List ℕ = take (length s.top) cs in
      let bottoms : List ℕ = drop (length s.top) cs in
      let (p, q) = fits_lengths s tops bottoms assigned in
      let (r, t) = fits_rises s sound tops bottoms assigned in
      let whole : tops ++ bottoms ≡ cs = take-append-drop (length s.top) cs in
      let size : length cs ≡ length (s.top ++ s.bottom) =
      omega (arith, ap length whole, length-append tops bottoms, length-append s.top s.bottom) in
      let xs : List ℕ = net_columns n (pins s.top tops) in
      let ys : List ℕ = net_columns n (pins s.bottom bottoms) in
      let split : net_columns n all_pins ≡ xs ++ ys = rw whole at (net-sides n s.top s.bottom tops bottoms p) in
      let many : 3 ≤ length (xs ++ ys) = omega (arith, h, pins-counted (s.top ++ s.bottom) cs n size, ap length split) in
      rw (end_columns min (left_start (kind_of n)) n all_pins, end_columns max (right_start (kind_of n)) n all_pins, split)
      (apart-either (left_start (kind_of n)) (right_start (kind_of n)) xs ys s.columns (net-rises n 0 s.columns s.top tops r)
      (net-rises n 0 s.columns s.bottom bottoms t) many)

  -- so to ask for two pins is to ask for more than one, as an interval count does
  pub more_than_one : (n c : ℕ) → 1 ≤ c → c < 255
      → crosses (straight_in s) all_pins n c ≡ crosses (λ (m : ℕ). counts_straight s.mark && ltb 1 (pin_count m (all_nets s))) all_pins n c
  more_than_one n c p q =
      rw (crosses-span (straight_in s) all_pins n c p q, crosses-span _ all_pins n c p q) (grind (arith, nat_tests, three_pins n))
