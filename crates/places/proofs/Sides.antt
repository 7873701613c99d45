-- The first and last place of a net on one side say which stretches of the side it stands in, or reaches by leaving.
-- Assumes nothing.
use Rattle.std.proofs.Common.{ℕ, zero, suc, ◌+◌, ◌-◌, ◌<◌, ◌≤◌, min, max, ◌≡◌, refl, List, ◌∷◌, Bool, true, false, cond, ◌&&◌, ◌||◌, arith, length, get_or, take, drop, leb, ltb, eqb, le-leb, lt-ltb, le-ltb, drop-cons, add-one}
use Rattle.std.proofs.Math.ListN.{drop_of_length-le}
use Rattle.std.proofs.Math.Nat.{sub-zero}
use Rattle.std.proofs.Math.Seq.{take-nil, drop-nil}
use Rattle.std.proofs.Math.Bool.{or_assoc, or-false, and-true, and-false}
use Rattle.std.proofs.lemmas.Bool.{lt-leb}
use Rattle.std.proofs.lemmas.Bool.Decides.{nat_tests}
use Rattle.kind.specs.Kinds.{kind_of, leaves_left, leaves_right, left_start, right_start}
use Rattle.kind.proofs.Starts.{left_start_lem, right_start_lem}
use Rattle.channel.specs.Cut.{has}
use Rattle.places.specs.Places.{EndsOf}

-- a pin more at place k, if it is the net's: the first place is at or left of c if the old one was, or if the pin stands there
first_more : (b : Bool) (f k c : ℕ) → c < 255 → leb (min f (cond b k 255)) c ≡ (leb f c || (b && leb k c))
first_more true f k c h = grind (arith, nat_tests)
first_more false f k c h = grind (arith, nat_tests)

-- likewise the last place and right of c
last_more : (b : Bool) (e k c : ℕ) → ltb c (max e (cond b k 0)) ≡ (ltb c e || (b && ltb c k))
last_more true e k c = grind (arith, nat_tests)
last_more false e k c = grind (arith, nat_tests)

-- over the pins ns behind place k: at or left of c stand the first c - k of them, right of c the others
has-take : (n m : ℕ) (ns : List ℕ) (k c : ℕ) → has n (take (c - k) (m ∷ ns)) ≡ ((eqb m n && leb (suc k) c) || has n (take (c - suc k) ns))
has-take n m ns k c = go (c - k) refl
  where
    go : (d : ℕ) → c - k ≡ d → has n (take d (m ∷ ns)) ≡ ((eqb m n && leb (suc k) c) || has n (take (c - suc k) ns))
    go zero e = let z : c - suc k ≡ 0 = omega arith in rw (lt-leb (suc k) c (omega arith), z, and-false)
    go (suc d) e = let z : c - suc k ≡ d = omega arith in rw (le-leb (suc k) c (omega arith), z, and-true)

has-drop : (n m : ℕ) (ns : List ℕ) (k c : ℕ) → has n (drop (c - k) (m ∷ ns)) ≡ ((eqb m n && ltb c (suc k)) || has n (drop (c - suc k) ns))
has-drop n m ns k c = go (c - k) refl
  where
    go : (d : ℕ) → c - k ≡ d → has n (drop d (m ∷ ns)) ≡ ((eqb m n && ltb c (suc k)) || has n (drop (c - suc k) ns))
    go zero e = let z : c - suc k ≡ 0 = omega arith in rw (lt-ltb c (suc k) (omega arith), z, and-true)
    go (suc d) e = let z : c - suc k ≡ d = omega arith in rw (le-ltb c (suc k) (omega arith), z, and-false)

-- the ends of net n over the first k pins of a side, where what is left of the side is still to be seen
pub record Seen (n : ℕ) (side : List ℕ) (k first last : ℕ) : Type 0 where
  pub left : (c : ℕ) → c < 255 → (leb first c || has n (take (c - k) (drop k side))) ≡ (leaves_left (kind_of n) || has n (take c side))
  pub right : (c : ℕ) → c < 255 → (ltb c last || has n (drop (c - k) (drop k side))) ≡ (leaves_right (kind_of n) || has n (drop c side))

module _ (n : ℕ) (side : List ℕ) where
  pub seen_none : Seen n side 0 (left_start (kind_of n)) (right_start (kind_of n))
  seen_none = record { left = λ c h. rw (left_start_lem (kind_of n) c h, sub-zero); right = λ c h. rw (right_start_lem (kind_of n) c h, sub-zero) }

  -- with a pin more of the net, or of another one
  module _ (k first last : ℕ) (b : Bool) (seen : Seen n side k first last) where
    pub seen_more : k < length side → eqb (get_or side k 0) n ≡ b
        → Seen n side (k + 1) (min first (cond b (k + 1) 255)) (max last (cond b (k + 1) 0))
    seen_more h e = record {
      left = λ c l. rw (first_more b first (k + 1) c l, or_assoc, add-one, ← e, ← has-take n (get_or side k 0) (drop (suc k) side) k c, ← drop-cons side k 0 h) (seen.left c l);
      right = λ c l. rw (last_more b last (k + 1) c, or_assoc, add-one, ← e, ← has-drop n (get_or side k 0) (drop (suc k) side) k c, ← drop-cons side k 0 h) (seen.right c l);
    }

    pub seen_all : length side ≤ k → EndsOf n side first last
    seen_all h = record {
      left = λ c l. rw (drop_of_length-le side h, take-nil, or-false) at (seen.left c l);
      right = λ c l. rw (drop_of_length-le side h, drop-nil, or-false) at (seen.right c l);
    }
