-- A net's ends in the channel: how far it reaches, cut to columns 1 to l. Its interval says which of these columns it crosses.
-- Assumes nothing.
use Rattle.std.proofs.Common.{◌≡◌, ℕ, ◌<◌, ◌≤◌, min, max, Bool, true, false, cond, ◌&&◌, ◌||◌, eqb, ltb, leb, List, [], ◌∷◌, sym, refl, ◌∙◌, true≢false, arith, ltb-false, ltb-true}
use Rattle.std.proofs.Math.Bool.{and-false}
use Rattle.std.proofs.lemmas.Bool.{and_parts}
use Rattle.std.proofs.lemmas.Bool.Decides.{nat_tests}
use Rattle.kind.specs.Kinds.{kind_of, leaves_left, leaves_right, left_start, right_start}
use Rattle.channel.specs.Sheet.{Terminal}
use Rattle.channel.specs.Density.{any, Pin, pins, some_pin, crossing, crosses}
use Rattle.channel.specs.Spans.{end_from, leftmost, rightmost, counts}
use Rattle.channel.proofs.Spans.{crosses-span}
use Rattle.left_edge.specs.Lists.{Each}
use Rattle.left_edge.specs.Spans.{left_end, right_end, interval_of}
use Rattle.left_edge.proofs.Method.{Fits}

-- a column from 1 to l; and pins in such columns
abbrev pub Inside : ℕ → ℕ → Type 0
Inside l c = (1 ≤ c) × (c ≤ l)

abbrev pub PinsInside : ℕ → List Pin → Type 0
PinsInside l ps = Each (λ (p : Pin). Inside l p.column) ps

pub pins_inside : (l : ℕ) (ts : List Terminal) (cs : List ℕ) → Each (Inside l) cs → PinsInside l (pins ts cs)
pins_inside l [] cs h = tt
pins_inside l (t ∷ ts) [] h = tt
pins_inside l (t ∷ ts) (c ∷ cs) h = (h.0, pins_inside l ts cs h.1)

-- net n has a pin
abbrev pub stands : ℕ → List Pin → Bool
stands n ps = any (λ (p : Pin). eqb p.net n) ps

-- what holds where the search for an end starts, and stays with each pin, holds of the end
end_holds :
    (l : ℕ) (P : ℕ → Type 0) (pick : ℕ → ℕ → ℕ) → ((i j : ℕ) → P i → Inside l j → P (pick i j)) → (start n : ℕ) (ps : List Pin)
    → PinsInside l ps → P start → P (end_from pick start n ps)
end_holds l P pick f start n [] h k = k
end_holds l P pick f start n (p ∷ ps) h k =
    end_holds l P pick f (cond (eqb p.net n) (pick start p.column) start) n ps h.1 (go (eqb p.net n))
  where
    go : (b : Bool) → P (cond b (pick start p.column) start)
    go true = f start p.column k h.0
    go false = k

-- what holds of each pick of a pin's column holds of the end of a net that has a pin
end_stands :
    (l : ℕ) (P : ℕ → Type 0) (pick : ℕ → ℕ → ℕ) → ((i j : ℕ) → Inside l j → P (pick i j)) → (start n : ℕ) (ps : List Pin)
    → PinsInside l ps → stands n ps ≡ true → P (end_from pick start n ps)
end_stands l P pick f start n [] h k = absurd (true≢false (sym k))
end_stands l P pick f start n (p ∷ ps) h k = go (eqb p.net n) k (λ s. end_stands l P pick f s n ps h.1)
  where
    go : (b : Bool) → (b || stands n ps) ≡ true → ((s : ℕ) → stands n ps ≡ true → P (end_from pick s n ps))
        → P (end_from pick (cond b (pick start p.column) start) n ps)
    go true k r = end_holds l P pick (λ i j a. f i j) (pick start p.column) n ps h.1 (f start p.column h.0)
    go false k r = r start k

-- one without a pin has none that passes a test
no_pin : (f : ℕ → Bool) (n : ℕ) (ps : List Pin) → stands n ps ≡ false → some_pin f n ps ≡ false
no_pin f n [] h = refl
no_pin f n (p ∷ ps) h = go (eqb p.net n) h (no_pin f n ps)
  where
    go : (b : Bool) → (b || stands n ps) ≡ false → (stands n ps ≡ false → some_pin f n ps ≡ false)
        → (b && f p.column || some_pin f n ps) ≡ false
    go true h r = absurd (true≢false h)
    go false h r = r h

module _ (l : ℕ) (first : 1 ≤ l) (short : l < 255) (ps : List Pin) (inside : PinsInside l ps) (n : ℕ) where
  pub left_end_lem : left_end ps n ≡ max 1 (leftmost n ps)
  unfolding leftmost
  left_end_lem = go (leaves_left (kind_of n))
    where
      go : (b : Bool) → cond b 1 (end_from min (cond b 0 255) n ps) ≡ max 1 (end_from min (cond b 0 255) n ps)
      go true = end_holds l (λ (c : ℕ). 1 ≡ max 1 c) min (λ i j a b. omega arith) 0 n ps inside refl
      go false = end_holds l (λ (c : ℕ). c ≡ max 1 c) min (λ i j a b. omega arith) 255 n ps inside refl

  pub right_end_lem : right_end l ps n ≡ min l (rightmost n ps)
  unfolding rightmost
  right_end_lem = go (leaves_right (kind_of n))
    where
      go : (b : Bool) → cond b l (end_from max (cond b 255 0) n ps) ≡ min l (end_from max (cond b 255 0) n ps)
      go true = end_holds l (λ (c : ℕ). l ≡ min l c) max (λ i j a b. omega arith) 255 n ps inside (omega arith)
      go false = end_holds l (λ (c : ℕ). c ≡ min l c) max (λ i j a b. omega arith) 0 n ps inside (omega arith)

  -- the search starts at 0 or 255, so the left end is in the channel or 255, and the right end no further than 255
  leftmost_inside : (leftmost n ps ≤ 255) × (leftmost n ps < 255 → leftmost n ps ≤ l)
  unfolding leftmost
  leftmost_inside =
      end_holds l (λ (c : ℕ). (c ≤ 255) × (c < 255 → c ≤ l)) min (λ i j a b. omega arith) (left_start (kind_of n)) n ps inside
      (go (leaves_left (kind_of n)))
    where
      go : (b : Bool) → (cond b 0 255 ≤ 255) × (cond b 0 255 < 255 → cond b 0 255 ≤ l)
      go true = omega arith
      go false = omega arith

  rightmost_inside : rightmost n ps ≤ 255
  unfolding rightmost
  rightmost_inside =
      end_holds l (λ (c : ℕ). c ≤ 255) max (λ i j a b. omega arith) (right_start (kind_of n)) n ps inside (go (leaves_right (kind_of n)))
    where
      go : (b : Bool) → cond b 255 0 ≤ 255
      go true = omega arith
      go false = omega arith

  -- a net with a pin reaches into the channel, from either side
  ends_stand : stands n ps ≡ true → (leftmost n ps ≤ l) × (1 ≤ rightmost n ps)
  unfolding leftmost rightmost
  ends_stand h = (
    end_stands l (λ (c : ℕ). c ≤ l) min (λ i j a. omega arith) (left_start (kind_of n)) n ps inside h,
    end_stands l (λ (c : ℕ). 1 ≤ c) max (λ i j a. omega arith) (right_start (kind_of n)) n ps inside h,
  )

  -- what code needs to pack the ends
  pub end_bounds : (1 ≤ left_end ps n) × (left_end ps n ≤ 255) × (right_end l ps n ≤ l) × (stands n ps ≡ true → left_end ps n ≤ l)
  end_bounds =
      let (most, column) = leftmost_inside in (
        omega (arith, left_end_lem),
        omega (arith, left_end_lem),
        omega (arith, right_end_lem),
        λ h. omega (arith, left_end_lem, ends_stand h),
      )

  -- where f says which nets are straight wires that count
  module _ (f : ℕ → Bool) where
    -- a net that reaches nothing has no pin and does not leave at the left: it crosses no column
    nowhere : 255 ≤ leftmost n ps → (c : ℕ) → crosses f ps n c ≡ false
    unfolding crosses leftmost
    nowhere h c = go (leaves_left (kind_of n)) h (stands n ps) refl
      where
        go : (b : Bool) → 255 ≤ end_from min (cond b 0 255) n ps → (s : Bool) → stands n ps ≡ s
            → crossing (f n) (b || some_pin (λ (k : ℕ). ltb k c) n ps) (some_pin (λ (k : ℕ). eqb k c) n ps)
            (leaves_right (kind_of n) || some_pin (λ (k : ℕ). ltb c k) n ps)
            ≡ false
        go true h s e = absurd (omega (arith, end_holds l (λ (c : ℕ). c ≤ l) min (λ i j a b. omega arith) 0 n ps inside (omega arith)))
        go false h true e = absurd (omega (arith, end_stands l (λ (c : ℕ). c ≤ l) min (λ i j a. omega arith) 255 n ps inside e))
        go false h false e = rw (no_pin (λ (k : ℕ). ltb k c) n ps e, no_pin (λ (k : ℕ). eqb k c) n ps e)

    -- a net crosses its left end exactly if it reaches into the channel and its ends differ, or it is a straight wire that counts
    crosses_left_end :
        crosses f ps n (left_end ps n)
        ≡ (counts (f n) (leftmost n ps) (rightmost n ps) && (ltb (leftmost n ps) 255 && ltb 0 (rightmost n ps)))
    crosses_left_end = go (ltb (leftmost n ps) 255) refl
      where
        go : (b : Bool) → ltb (leftmost n ps) 255 ≡ b
            → crosses f ps n (left_end ps n) ≡ (counts (f n) (leftmost n ps) (rightmost n ps) && (b && ltb 0 (rightmost n ps)))
        go false q = nowhere (ltb-false (leftmost n ps) 255 q) (left_end ps n) ∙ rw and-false
        go true q =
            let h = ltb-true (leftmost n ps) 255 q in
            crosses-span f ps n (left_end ps n) (omega (arith, left_end_lem)) (omega (arith, left_end_lem))
            ∙ grind (arith, nat_tests, left_end_lem)

    -- which one does whose ends differ, and so does such a wire, as it has a pin
    pub counts_ends : (f n ≡ true → stands n ps ≡ true)
        → crosses f ps n (left_end ps n) ≡ counts (f n) (leftmost n ps) (rightmost n ps)
    counts_ends pinned = crosses_left_end ∙ grind (arith, nat_tests, pinned, ends_stand, rightmost_inside)

    -- its interval says which columns it crosses
    pub crosses-interval : (c : ℕ) → 1 ≤ c → c ≤ l
        → crosses f ps n c ≡ (crosses f ps n (left_end ps n) && (leb (left_end ps n) c && leb c (right_end l ps n)))
    crosses-interval c p q =
        crosses-span f ps n c p (omega arith) ∙ rw crosses_left_end (grind (arith, nat_tests, left_end_lem, right_end_lem))

    pub interval-fits : Fits l (crosses f ps) (interval_of f l ps n)
    interval-fits = record { exact = crosses-interval; within = within }
      where
        within : crosses f ps n (left_end ps n) ≡ true → (1 ≤ left_end ps n) × (left_end ps n ≤ right_end l ps n) × (right_end l ps n ≤ l)
        within e =
            let (counted, column) = and_parts (counts (f n) (leftmost n ps) (rightmost n ps)) _ (sym crosses_left_end ∙ e) in
            grind (arith, nat_tests, left_end_lem, right_end_lem, leftmost_inside)
