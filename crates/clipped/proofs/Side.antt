-- One side by itself: the columns that fit it are those that fit it with the clipped sets, and there are some exactly when the side is open.
-- Assumes nothing.
use Rattle.std.proofs.Common.{ℕ, zero, suc, ◌+◌, ◌-◌, ◌*◌, ◌^◌, ◌≤◌, ◌<◌, ◌≡◌, refl, sym, ◌∙◌, ap, List, [], ◌∷◌, length, drop, length-drop, arith, Bool, true, false, ◌||◌, leb, ltb, eqb, leb-true, le-leb, ltb-true, ltb-false, ne_eqb, add-one, true≢false}
use Rattle.std.proofs.Math.Bool.{or-true, and-eq-true_iff}
use Rattle.std.proofs.Math.Seq.{drop-cons, drop-length}
use Rattle.std.proofs.lemmas.Bool.{and_from, lt-leb, false_from_ne_true}
use Rattle.std.specs.Cmp.{both_ways}
use Rattle.channel.specs.Sheet.{Terminal, no_terminal, SoundFrom, names_above, distances_hold, nets}
use Rattle.channel.specs.Assignment.{allows, in_range, later_fit, side_fits}
use Rattle.channel.specs.Pairs.{Alike, Looser, Wider}
use Rattle.channel.proofs.Sets.{allowed-column, names_above_exactly}
use Rattle.channel.proofs.Assignments.{later_parts}
use Rattle.channel.proofs.Sides.{later_test, side_looser}
use Rattle.bits.specs.Bits.{bit_of, in_word}
use Rattle.bits.proofs.Laws.{word-from, word_to}
use Rattle.arrays.specs.Rules.{pins, range_at, allowed_at}
use Rattle.reach.specs.Reach.{terminal_number, near}
use Rattle.steps.specs.Stepped.{stepped}
use Rattle.steps.proofs.Back.{back-from, stepped-from, stepped_to}
use Rattle.clip.specs.Clip.{Clipped, side_open}
use Rattle.rules.specs.Sides.{SideRules}
use Rattle.rules.proofs.Reading.{next_terminal}
use Rattle.clipped.specs.Clipped.{with_word, with_words, clipped_terminals}
use Rattle.clipped.proofs.Terminals.{allows_word, length-with_words, nets-with_words, with_words_at}

-- a bit of a word is a column of the set
names_kept : (w n x : ℕ) → suc n ≤ x → bit_of w (x - suc n) ≡ true → allows (w * 2 ^ n) x ≡ true
names_kept w n zero h e = absurd (omega arith)
names_kept w n (suc x) h e = allows_word w n x ∙ and_from _ _ (le-leb n x (omega arith)) (ap (bit_of w) (omega arith) ∙ e)

-- and back
kept_names : (w n x : ℕ) → allows (w * 2 ^ n) x ≡ true → (suc n ≤ x) × (bit_of w (x - suc n) ≡ true)
kept_names w n zero e = absurd (true≢false (sym e))
kept_names w n (suc x) e =
    let (h, f) = (and-eq-true_iff (leb n x) (bit_of w (x - n))).0 (sym (allows_word w n x) ∙ e) in
    let more = leb-true n x h in
    (omega arith, ap (bit_of w) (omega arith) ∙ f)

module _ (side : ℕ) (ts : List Terminal) (old new : List ℕ) (r : SideRules side ts old) (c : Clipped side (length ts) old new) (few : length ts ≤ pins) where
  abbrev left : List ℕ
  left = c.left

  -- the ranges are as they were
  ranges_left : (i : ℕ) → 1 ≤ i → i ≤ length ts → range_at left side i ≡ range_at old side i
  ranges_left i p l = c.from_left.alone.ranges side i p (omega arith)

  -- each set is part of the one before
  part_left :
      (i x : ℕ) → 1 ≤ i → i ≤ length ts → bit_of (allowed_at left side i) x ≡ true → bit_of (allowed_at old side i) x ≡ true
  part_left zero x p l e = absurd (omega arith)
  part_left (suc zero) x p l e =
      ap (λ (w : ℕ). bit_of w x) (sym (c.from_left.alone.others side 1 p (omega arith) (λ a b d. omega arith))) ∙ e
  part_left (suc (suc i)) x p l e = ((and-eq-true_iff _ _).0 (sym (c.from_left.sets (suc i) x (omega arith) (omega arith)) ∙ e)).0

  part_new :
      (i x : ℕ) → 1 ≤ i → i ≤ length ts → bit_of (allowed_at new side i) x ≡ true → bit_of (allowed_at left side i) x ≡ true
  part_new i x p l e = by-test (ltb i (length ts)) refl
    where
      by-test : (t : Bool) → ltb i (length ts) ≡ t → bit_of (allowed_at left side i) x ≡ true
      by-test true q = ((and-eq-true_iff _ _).0 (sym (c.from_right.sets i x p (ltb-true i (length ts) q)) ∙ e)).0
      by-test false q =
          let last = ltb-false i (length ts) q in
          ap (λ (w : ℕ). bit_of w x) (sym (c.from_right.alone.others side i p (omega arith) (λ a b d. omega arith))) ∙ e

  -- the bits of a pin's own set and range are its columns and distances
  own_set : (i x : ℕ) → 1 ≤ i → i ≤ length ts → i ≤ x → bit_of (allowed_at old side i) (x - i) ≡ allows (terminal_number ts i).allowed x
  own_set i x p l h = r.allowed i (x - i) p l ∙ ap (allows (terminal_number ts i).allowed) (omega arith)

  own_range :
      (i b x : ℕ) → 1 ≤ i → suc i ≤ length ts → b < x → x - suc b < 64
      → bit_of (range_at old side (suc i)) (x - suc b) ≡ in_range (terminal_number ts (suc i)).least (terminal_number ts (suc i)).greatest b x
  own_range i b x p l h k =
      r.range (suc i) (x - suc b) b (omega arith) l k
      ∙ rw (lt-leb (suc i) 1 (omega arith)) (ap (in_range (terminal_number ts (suc i)).least (terminal_number ts (suc i)).greatest b) (omega arith))

  -- two pins one behind the other, in columns that the second one's range allows
  module _ (n b x : ℕ) (p : 1 ≤ n) (l : suc n ≤ length ts) (h : n ≤ b) (less : b < x) (k : x ≤ 64)
      (within : in_range (terminal_number ts (suc n)).least (terminal_number ts (suc n)).greatest b x ≡ true) where
    -- so a step of the range leads from the one bit to the other
    step : bit_of (range_at old side (suc n)) (x - suc n - (b - n)) ≡ true
    step = ap (bit_of (range_at old side (suc n))) (omega arith) ∙ own_range n b x p l less (omega arith) ∙ within

    reached :
        bit_of (allowed_at left side n) (b - n) ≡ true → allows (terminal_number ts (suc n)).allowed x ≡ true
        → bit_of (allowed_at left side (suc n)) (x - suc n) ≡ true
    reached e f =
        c.from_left.sets n (x - suc n) p l
        ∙ and_from _ _ (own_set (suc n) x (omega arith) l (omega arith) ∙ f)
        (stepped-from (allowed_at left side n) (range_at old side (suc n)) (x - suc n) (b - n) (omega arith) step e)

    reaching :
        bit_of (allowed_at left side n) (b - n) ≡ true → bit_of (allowed_at new side (suc n)) (x - suc n) ≡ true
        → bit_of (allowed_at new side n) (b - n) ≡ true
    reaching e f =
        c.from_right.sets n (b - n) p l
        ∙ and_from _ _ e
        (back-from (allowed_at new side (suc n)) (range_at left side (suc n)) (b - n) (x - suc n) (omega arith) (omega arith)
        (ap (λ (w : ℕ). bit_of w (x - suc n - (b - n))) (ranges_left (suc n) (omega arith) l) ∙ step) f)

  -- a column kept for a pin, and the columns of those behind it, that fit them: all are kept, and some column is for the last
  record KeptFrom (n : ℕ) (us : List Terminal) (b : ℕ) (cs : List ℕ) : Type 0 where
    here : bit_of (allowed_at new side n) (b - n) ≡ true
    later : later_fit (with_words side new n us) b cs ≡ true
    last : in_word (bit_of (allowed_at new side (length ts))) ≡ true

  module _ (l : ℕ) (wide : l ≤ 64) where
    kept_from :
        (n : ℕ) (us : List Terminal) → drop n ts ≡ us → 1 ≤ n → n ≤ length ts → SoundFrom l false us
        → (b : ℕ) (cs : List ℕ) → n ≤ b → b ≤ l → bit_of (allowed_at left side n) (b - n) ≡ true → later_fit us b cs ≡ true
        → KeptFrom n us b cs
    kept_from n [] d p q sound b [] h k e f =
        let all : n ≡ length ts = omega (arith, ap length d, length-drop n ts) in
        let here = ap (λ (w : ℕ). bit_of w (b - n)) (c.from_right.alone.others side n p (omega arith) (λ a b d. omega arith)) ∙ e in
        record { here = here; later = refl; last = rw (← all) (word-from (bit_of (allowed_at new side n)) (b - n) (omega arith) here) }
    kept_from n [] d p q sound b (x ∷ cs) h k e f = absurd (true≢false (sym f))
    kept_from n (t ∷ us) d p q sound b [] h k e f = absurd (true≢false (sym f))
    kept_from n (t ∷ us) d p q sound b (x ∷ cs) h k e f =
        let (allowed, low, high, rest) = later_parts t us b x cs f in
        let (one, top) = allowed-column l t.allowed x allowed sound.0.allowed in
        let least = leb-true 1 t.least ((and-eq-true_iff (leb 1 t.least) (leb t.least t.greatest)).0 sound.0.distances).0 in
        let next = next_terminal ts n t us d in
        let number = rw add-one at next.number in
        let behind = rw add-one at next.behind in
        let room : suc n ≤ length ts = omega (arith, next.there) in
        let within : in_range (terminal_number ts (suc n)).least (terminal_number ts (suc n)).greatest b x ≡ true =
        rw (number, le-leb (b + t.least) x low, le-leb x (b + t.greatest) high) in
        let there = reached n b x p room h (omega arith) (omega arith) within e (rw number allowed) in
        let kept = kept_from (suc n) us behind (omega arith) room sound.1 x cs (omega arith) top there rest in
        record {
          here = reaching n b x p room h (omega arith) (omega arith) within e kept.here;
          later = later_test (with_word side new n t) (with_words side new (suc n) us) b x cs (names_kept (allowed_at new side (suc n)) n x (omega arith) kept.here) low high kept.later;
          last = kept.last;
        }

    -- columns that fit a side are kept, and the side is open
    side_kept :
        (us : List Terminal) → ts ≡ us → SoundFrom l true us → (cs : List ℕ) → side_fits us cs ≡ true
        → (side_fits (with_words side new 0 us) cs ≡ true) × (side_open side (length ts) new ≡ true)
    side_kept [] d sound [] f = (refl, rw d)
    side_kept [] d sound (x ∷ cs) f = absurd (true≢false (sym f))
    side_kept (t ∷ us) d sound [] f = absurd (true≢false (sym f))
    side_kept (t ∷ us) d sound (x ∷ cs) f =
        let (allowed, rest) = (and-eq-true_iff (allows t.allowed x) (later_fit us x cs)).0 f in
        let (one, top) = allowed-column l t.allowed x allowed sound.0.allowed in
        let some : 1 ≤ length ts = omega (arith, ap length d) in
        let number : terminal_number ts 1 ≡ t = rw d in
        let here : bit_of (allowed_at left side 1) (x - 1) ≡ true =
        ap (λ (w : ℕ). bit_of w (x - 1)) (c.from_left.alone.others side 1 (omega arith) (omega arith) (λ a b d. omega arith))
        ∙ own_set 1 x (omega arith) some one ∙ rw number allowed in
        let kept = kept_from 1 us (ap (drop 1) d) (omega arith) some sound.1 x cs one top here rest in
        (and_from _ _ (names_kept (allowed_at new side 1) 0 x one kept.here) kept.later, rw kept.last (or-true (eqb (length ts) 0)))

    -- the sets are parts of the terminals' own
    part : (n : ℕ) (t : Terminal) → suc n ≤ length ts → terminal_number ts (suc n) ≡ t → (x : ℕ)
        → allows (allowed_at new side (suc n) * 2 ^ n) x ≡ true → allows t.allowed x ≡ true
    part n t h number x e =
        let (more, f) = kept_names (allowed_at new side (suc n)) n x e in
        rw number at
        (sym (own_set (suc n) x (omega arith) h more)
        ∙ part_left (suc n) (x - suc n) (omega arith) h (part_new (suc n) (x - suc n) (omega arith) h f))

    wider : (first : Bool) (n : ℕ) (t : Terminal) → Wider first (with_word side new n t) t
    wider true n t = tt
    wider false n t = (omega arith, omega arith)

    parts : (n : ℕ) (us : List Terminal) (first : Bool) → drop n ts ≡ us → Alike Looser first (with_words side new n us) us
    parts n [] first d = tt
    parts n (t ∷ us) first d =
        let next = next_terminal ts n t us d in (
          record { net = refl; allowed = part n t (omega (arith, next.there)) (rw add-one at next.number); distances = wider first n t },
          parts (suc n) us false (rw add-one at next.behind),
        )

    -- so sound terminals stay sound
    distances : (n : ℕ) (t : Terminal) (first : Bool) → distances_hold first (with_word side new n t) ≡ distances_hold first t
    distances n t true = refl
    distances n t false = refl

    sound_parts : (n : ℕ) (us : List Terminal) (first : Bool) → drop n ts ≡ us → SoundFrom l first us → SoundFrom l first (with_words side new n us)
    sound_parts n [] first d sound = tt
    sound_parts n (t ∷ us) first d sound =
        let next = next_terminal ts n t us d in
        let set : ℕ = allowed_at new side (suc n) * 2 ^ n in (
          record {
            net = sound.0.net;
            distances = distances n t first ∙ sound.0.distances;
            allowed =
                false_from_ne_true (names_above l set)
                (λ e.
                let (x, h, f) = (names_above_exactly l set).0 e in
                let own = part n t (omega (arith, next.there)) (rw add-one at next.number) x f in
                true≢false (sym ((names_above_exactly l t.allowed).1 (x, h, own)) ∙ sound.0.allowed));
          },
          sound_parts (suc n) us false (rw add-one at next.behind) sound.1,
        )

    -- from a column kept for a pin, and columns that fit those behind it, columns that fit the side
    fits_from :
        (n x : ℕ) (rest : List ℕ) → suc n ≤ length ts → x < 64 → bit_of (allowed_at new side (suc n)) x ≡ true
        → later_fit (drop (suc n) ts) (x + suc n) rest ≡ true → (cs : List ℕ) × (side_fits ts cs ≡ true)
    fits_from zero x rest h k e f = (
      (x + 1) ∷ rest,
      ap (λ (us : List Terminal). side_fits us ((x + 1) ∷ rest)) (drop-cons ts 0 no_terminal h)
          ∙ and_from _ _ (sym (r.allowed 1 x (omega arith) h) ∙ part_left 1 x (omega arith) h (part_new 1 x (omega arith) h e)) f,
    )
    fits_from (suc n) x rest h k e f =
        let t : Terminal = terminal_number ts (suc (suc n)) in
        let in_left = part_new (suc (suc n)) x (omega arith) h e in
        let step_to =
        ((and-eq-true_iff (bit_of (allowed_at old side (suc (suc n))) x)
        (stepped (allowed_at left side (suc n)) (range_at old side (suc (suc n))) x)).0
        (sym (c.from_left.sets (suc n) x (omega arith) h) ∙ in_left)).1 in
        let (y, less, s, g) = stepped_to (allowed_at left side (suc n)) (range_at old side (suc (suc n))) x step_to in
        let kept =
        c.from_right.sets (suc n) y (omega arith) h
        ∙ and_from _ _ g
        (back-from (allowed_at new side (suc (suc n))) (range_at left side (suc (suc n))) y x less k
        (ap (λ (w : ℕ). bit_of w (x - y)) (ranges_left (suc (suc n)) (omega arith) h) ∙ s) e) in
        let within =
        sym (own_range (suc n) (y + suc n) (x + suc (suc n)) (omega arith) h (omega arith) (omega arith))
        ∙ ap (bit_of (range_at old side (suc (suc n)))) (omega arith) ∙ s in
        let (low, high) = (and-eq-true_iff (leb (y + suc n + t.least) (x + suc (suc n))) (leb (x + suc (suc n)) (y + suc n + t.greatest))).0 within in
        fits_from n y ((x + suc (suc n)) ∷ rest) (omega arith) (omega arith) kept
        (ap (λ (us : List Terminal). later_fit us (y + suc n) ((x + suc (suc n)) ∷ rest)) (drop-cons ts (suc n) no_terminal h)
        ∙ later_test t (drop (suc (suc n)) ts) (y + suc n) (x + suc (suc n)) rest
        (sym (r.allowed (suc (suc n)) x (omega arith) h) ∙ part_left (suc (suc n)) x (omega arith) h in_left)
        (leb-true _ _ low) (leb-true _ _ high) f)

    -- so an open side has columns that fit
    open_fits : (us : List Terminal) → ts ≡ us → side_open side (length us) new ≡ true → (cs : List ℕ) × (side_fits ts cs ≡ true)
    open_fits [] d e = ([], ap (λ (us : List Terminal). side_fits us []) d)
    open_fits (t ∷ us) d e =
        let m : ℕ = length us in
        let (x, k, f) = word_to (bit_of (allowed_at new side (suc m))) (rw (ne_eqb (suc m) 0 (omega arith)) at e) in
        fits_from m x [] (omega (arith, ap length d)) k f
        (ap (λ (us : List Terminal). later_fit us (x + suc m) []) (ap (drop (suc m)) d ∙ drop-length us))

  -- the words are the rules of the clipped terminals
  new_number :
      (j : ℕ) → j < length ts → terminal_number (clipped_terminals side new ts) (suc j) ≡ with_word side new j (terminal_number ts (suc j))
  new_number j h = with_words_at side new 0 ts j h ∙ ap (λ (k : ℕ). with_word side new k (terminal_number ts (suc j))) (omega arith)

  new_rules : SideRules side (clipped_terminals side new ts) new
  new_rules = record { range = range; allowed = allowed }
    where
      as_many : length (clipped_terminals side new ts) ≡ length ts
      as_many = length-with_words side new 0 ts

      range :
          (i e t : ℕ) → 1 ≤ i → i ≤ length (clipped_terminals side new ts) → e < 64
          → bit_of (range_at new side i) e ≡ near (clipped_terminals side new ts) i t (t + suc e)
      range zero e t p l h = absurd (omega arith)
      range (suc j) e t p l h =
          let room : suc j ≤ length ts = omega (arith, as_many) in
          ap (λ (w : ℕ). bit_of w e) (c.from_right.alone.ranges side (suc j) p (omega arith) ∙ ranges_left (suc j) p room)
          ∙ r.range (suc j) e t p room h
          ∙ ap (λ (u : Terminal). leb (suc j) 1 || in_range u.least u.greatest t (t + suc e)) (sym (new_number j room))

      allowed :
          (i x : ℕ) → 1 ≤ i → i ≤ length (clipped_terminals side new ts)
          → bit_of (allowed_at new side i) x ≡ allows (terminal_number (clipped_terminals side new ts) i).allowed (x + i)
      allowed zero x p l = absurd (omega arith)
      allowed (suc j) x p l =
          let room : suc j ≤ length ts = omega (arith, as_many) in
          let w : ℕ = allowed_at new side (suc j) in
          let place : x + suc j ≡ suc (x + j) = omega arith in
          let moved : allows (w * 2 ^ j) (x + suc j) ≡ bit_of w x =
          ap (allows (w * 2 ^ j)) place ∙ allows_word w j (x + j) ∙ rw (le-leb j (x + j) (omega arith)) (ap (bit_of w) (omega arith)) in
          sym moved
          ∙ ap (λ (u : Terminal). allows u.allowed (x + suc j)) (sym (new_number j room))

-- what clipping does of a side: its terminals vs after it are sound, and as the table says; the same columns fit, and there are some
-- exactly where the side is open
pub record ClippedSide (l side : ℕ) (ts vs : List Terminal) (rules : List ℕ) (is_open : Bool) : Type 0 where
  pub same_nets : nets ts ≡ nets vs
  pub sound : SoundFrom l true vs
  pub words : SideRules side vs rules
  pub fits : (cs : List ℕ) → side_fits ts cs ≡ side_fits vs cs
  pub opened : is_open ≡ true → (cs : List ℕ) × (side_fits ts cs ≡ true)
  pub closed : is_open ≡ false → (cs : List ℕ) → side_fits ts cs ≡ false

pub side_clipped :
    (l side : ℕ) (ts : List Terminal) (old new : List ℕ) → l ≤ 64 → length ts ≤ pins → SoundFrom l true ts → SideRules side ts old
    → Clipped side (length ts) old new
    → ClippedSide l side ts (clipped_terminals side new ts) new (side_open side (length ts) new)
side_clipped l side ts old new wide few sound r c =
    record {
      same_nets = sym (nets-with_words side new 0 ts);
      sound = sound_parts side ts old new r c few l wide 0 ts true refl sound;
      words = new_rules side ts old new r c few;
      fits =
          λ cs.
          both_ways _ _ (λ e. (side_kept side ts old new r c few l wide ts refl sound cs e).0)
          (side_looser (clipped_terminals side new ts) ts cs (parts side ts old new r c few l wide 0 ts true refl));
      opened = open_fits side ts old new r c few l wide ts refl;
      closed =
          λ q cs.
          false_from_ne_true _ (λ e. true≢false (sym (side_kept side ts old new r c few l wide ts refl sound cs e).1 ∙ q));
    }
