-- The two numbers of a pin, from what its own side has before and behind it and from its net's ends on the other side; and the list of them.
-- Assumes nothing.
use Rattle.std.proofs.Common.{ℕ, suc, ◌+◌, ◌<◌, ◌≡◌, refl, List, [], ◌∷◌, ◌++◌, Bool, true, false, cond, ◌||◌, arith, length, get_or, take, drop, leb, ltb, eqb, le-leb, lt-ltb, ltb-true, ltb-false, add-one}
use Rattle.std.proofs.Math.Bool.{or-true}
use Rattle.std.proofs.lemmas.Bool.Decides.{nat_tests}
use Rattle.std.proofs.Math.Seq.{get_or-append_seam}
use Rattle.std.proofs.lemmas.List.{get_or_append_left}
use Rattle.channel.specs.Density.{any}
use Rattle.channel.specs.Cut.{has}
use Rattle.places.specs.declared.PinPlaces.{PinPlaces}
use Rattle.places.specs.Places.{EndsOf, Numbers}

pub eqb_sym : (a b : ℕ) → eqb a b ≡ eqb b a
eqb_sym a b = grind (arith, nat_tests)

pub any_has : (n : ℕ) (ns : List ℕ) → any (eqb n) ns ≡ has n ns
any_has n [] = refl
any_has n (k ∷ ks) = rw (eqb_sym n k, any_has n ks)

-- 0 where there is a pin before, and an end past all where there is one behind, say of every number what the pin says
zeroed : (x y : Bool) (f j : ℕ) (t : Bool) → leb f j ≡ (y || t) → leb (cond x 0 f) j ≡ (y || (x || t))
zeroed true y f j t e = rw (le-leb 0 j (omega arith), or-true)
zeroed false y f j t e = e

past : (x y : Bool) (l j : ℕ) (t : Bool) → j < 255 → ltb j l ≡ (y || t) → ltb j (cond x 255 l) ≡ (y || (x || t))
past true y l j t h e = rw (lt-ltb j 255 h, or-true)
past false y l j t h e = e

pub numbers : (f : ℕ → Bool) (own other : List ℕ) (i first last opens closes : ℕ) (before behind straight : Bool)
    → EndsOf (get_or own i 0) other first last
    → before ≡ any (eqb (get_or own i 0)) (take i own)
    → behind ≡ any (eqb (get_or own i 0)) (drop (i + 1) own)
    → opens ≡ cond before 0 first
    → closes ≡ cond behind 255 last
    → straight ≡ f (get_or own i 0)
    → Numbers f own other i (record { net = get_or own i 0; opens = opens; closes = closes; straight = straight })
numbers f own other i first last opens closes before behind straight ends x y o e s =
    record {
      net = refl;
      opens = λ j h. rw (o, ← any_has (get_or own i 0) (take i own), ← x) (zeroed before _ first j _ (ends.left j h));
      closes = λ j h. rw (e, ← any_has (get_or own i 0) (drop (suc i) own), ← add-one i, ← y) (past behind _ last j _ h (ends.right j h));
      straight = s;
    }

-- what holds of the pins listed so far and of one more holds of all of them
pub listed_more : (P : ℕ → PinPlaces → Type 0) (pins : List PinPlaces) (pin : PinPlaces) (i : ℕ) → length pins ≡ i
    → ((k : ℕ) (d : PinPlaces) → k < i → P k (get_or pins k d))
    → P i pin
    → (k : ℕ) (d : PinPlaces) → k < i + 1 → P k (get_or (pins ++ pin ∷ []) k d)
listed_more P pins pin i size so_far new k d h = by-place (ltb k i) refl
  where
    by-place : (b : Bool) → ltb k i ≡ b → P k (get_or (pins ++ pin ∷ []) k d)
    by-place true e =
        let l = ltb-true k i e in
        rw (get_or_append_left pins (pin ∷ []) d k (omega arith)) (so_far k d l)
    by-place false e =
        let same : k ≡ length pins = omega (arith, ltb-false k i e) in
        rw (same, get_or-append_seam, size) new
