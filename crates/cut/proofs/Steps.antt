-- How the cut changes with one pin more.
-- Assumes nothing.
use Rattle.std.proofs.Common.{ℕ, zero, suc, ◌+◌, ◌≤◌, ◌<◌, ◌≡◌, refl, ap, ap₂, List, [], ◌∷◌, ◌++◌, Bool, true, cond, ◌&&◌, ◌||◌, arith, length, get_or, take, drop, leb, ltb, eqb, eq-eqb, drop-cons, take-suc, length-append}
use Rattle.std.proofs.Math.Bool.{and-true, or-true, or-false, or_comm}
use Rattle.std.proofs.Math.Path.{fun_ext}
use Rattle.std.proofs.lemmas.Bool.Decides.{nat_tests}
use Rattle.kind.specs.Kinds.{kind_of, leaves_left}
use Rattle.channel.specs.Density.{pin_count, weight_of, distinct}
use Rattle.channel.specs.Cut.{has}
use Rattle.channel.proofs.Columns.{any_append}
use Rattle.channel.proofs.Spans.{length-distinct}
use Rattle.places.specs.declared.PinPlaces.{PinPlaces}
use Rattle.places.specs.Places.{comes, goes_on, Numbers}
use Rattle.places.proofs.Numbers.{eqb_sym}
use Rattle.cut.specs.Counts.{cut}
use Rattle.cut.proofs.Weights.{weight_change, weight_members, weight_most, distinct_once}

-- those of the nets ns that are cut, seen from one side
abbrev pub cut_of : List ℕ → List ℕ → List ℕ → ℕ → ℕ → ℕ
cut_of ns own other i j = weight_of (λ (n : ℕ). comes own other i j n && goes_on own other i j n) ns

or_last : (a b c d : Bool) → (a || ((b || c) || d)) ≡ ((a || (b || d)) || c)
or_last a b c d = grind (arith, nat_tests)

or_first : (a b c d : Bool) → (a || ((b || c) || d)) ≡ (b || (a || (c || d)))
or_first a b c d = grind (arith, nat_tests)

-- with a pin more at or left of a point, that pin's net has come before it too, and what went on before goes on or is that net
module _ (own other : List ℕ) (i j k : ℕ) (h : i < length own) where
  pub comes_more : comes own other (suc i) j k ≡ (comes own other i j k || eqb (get_or own i 0) k)
  comes_more = rw (take-suc own i 0 h, any_append, or-false) (or_last _ (has k (take i own)) _ _)

  pub goes_more : goes_on own other i j k ≡ (eqb (get_or own i 0) k || goes_on own other (suc i) j k)
  goes_more = rw (drop-cons own i 0 h) (or_first _ (eqb (get_or own i 0) k) _ _)

-- a pin more changes the cut by whether its net has come before it, and goes on behind it
step-of : (ns own other : List ℕ) (i j : ℕ) → i < length own → pin_count (get_or own i 0) ns ≡ 1
    → cut_of ns own other (suc i) j + cond (comes own other i j (get_or own i 0)) 1 0
    ≡ cut_of ns own other i j + cond (goes_on own other (suc i) j (get_or own i 0)) 1 0
step-of ns own other i j h once =
    let n : ℕ = get_or own i 0 in
    let here : eqb n n ≡ true = eq-eqb n n refl in
    let change =
    weight_change (λ (k : ℕ). comes own other i j k && goes_on own other i j k)
    (λ (k : ℕ). comes own other (suc i) j k && goes_on own other (suc i) j k) n
    (λ k d. rw (comes_more own other i j k h, goes_more own other i j k h, eqb_sym n k, d, or-false)) ns once in
    rw (comes_more own other i j n h, goes_more own other i j n h, here, and-true, or-true) at change

-- by the pin's two numbers
pub step : (f : ℕ → Bool) (ns own other : List ℕ) (i j : ℕ) (pin : PinPlaces) → Numbers f own other i pin → i < length own → j < 255
    → pin_count (get_or own i 0) ns ≡ 1
    → cut_of ns own other (suc i) j + cond (leb pin.opens j) 1 0 ≡ cut_of ns own other i j + cond (ltb j pin.closes) 1 0
step f ns own other i j pin numbers h l once = rw (numbers.opens j l, numbers.closes j l, numbers.net) (step-of ns own other i j h once)

-- the two sides change places
pub comes_swap : (own other : List ℕ) (i j n : ℕ) → comes other own j i n ≡ comes own other i j n
comes_swap own other i j n = rw (or_comm (has n (take j other)))

pub goes_swap : (own other : List ℕ) (i j n : ℕ) → goes_on other own j i n ≡ goes_on own other i j n
goes_swap own other i j n = rw (or_comm (has n (drop j other)))

pub cut_swap : (ns own other : List ℕ) (i j : ℕ) → cut_of ns other own j i ≡ cut_of ns own other i j
cut_swap ns own other i j =
    ap (λ (f : ℕ → Bool). weight_of f ns) (fun_ext (λ n. ap₂ (λ (a b : Bool). a && b) (comes_swap own other i j n) (goes_swap own other i j n)))

-- the net of a pin is once among the nets of the two sides
has-at : (ns : List ℕ) (i : ℕ) → i < length ns → has (get_or ns i 0) ns ≡ true
has-at [] i h = absurd (omega arith)
has-at (n ∷ ns) zero h = rw (eq-eqb n n refl)
has-at (n ∷ ns) (suc i) h = rw (has-at ns i (omega arith), or-true)

module _ (tops bottoms : List ℕ) where
  pub once-top : (i : ℕ) → i < length tops → pin_count (get_or tops i 0) (distinct (tops ++ bottoms)) ≡ 1
  once-top i h = distinct_once (get_or tops i 0) (tops ++ bottoms) (rw (any_append, has-at tops i h))

  pub once-bottom : (j : ℕ) → j < length bottoms → pin_count (get_or bottoms j 0) (distinct (tops ++ bottoms)) ≡ 1
  once-bottom j h = distinct_once (get_or bottoms j 0) (tops ++ bottoms) (rw (any_append, has-at bottoms j h, or-true))

  -- left of all pins those nets are cut that come in at the left
  pub cut_first : cut tops bottoms 0 0 ≡ weight_of (λ (n : ℕ). leaves_left (kind_of n)) (distinct (tops ++ bottoms))
  unfolding cut
  cut_first =
      weight_members _ _ (tops ++ bottoms)
      (λ k e. let some = rw any_append at e in rw (or-false, some, or-true, and-true))

  -- no cut has more than 128 nets
  pub cut_most : (i j : ℕ) → length tops ≤ 64 → length bottoms ≤ 64 → cut tops bottoms i j ≤ 128
  unfolding cut
  cut_most i j t b =
      omega (
        arith,
        weight_most (λ (n : ℕ). comes tops bottoms i j n && goes_on tops bottoms i j n) (distinct (tops ++ bottoms)),
        length-distinct (tops ++ bottoms),
        length-append tops bottoms,
      )

  -- of the two sides, with a top pin more and with a bottom pin more
  module _ (f : ℕ → Bool) (i j : ℕ) (pin : PinPlaces) where
    pub step_top : Numbers f tops bottoms i pin → i < length tops → j < 255
        → cut tops bottoms (suc i) j + cond (leb pin.opens j) 1 0 ≡ cut tops bottoms i j + cond (ltb j pin.closes) 1 0
    unfolding cut
    step_top numbers h l = step f (distinct (tops ++ bottoms)) tops bottoms i j pin numbers h l (once-top i h)

    pub step_bottom : Numbers f bottoms tops j pin → j < length bottoms → i < 255
        → cut tops bottoms i (suc j) + cond (leb pin.opens i) 1 0 ≡ cut tops bottoms i j + cond (ltb i pin.closes) 1 0
    unfolding cut
    step_bottom numbers h l =
        let ns : List ℕ = distinct (tops ++ bottoms) in
        rw (cut_swap ns tops bottoms i (suc j), cut_swap ns tops bottoms i j) at
        (step f ns bottoms tops j i pin numbers h l (once-bottom j h))
