-- What the layers above use of a number in bytes: n bytes hold a number below 256 ^ n, and equal bytes hold the same.
-- Assumes nothing.
use Rattle.std.proofs.Common.{ℕ, zero, suc, ◌≡◌, ◌+◌, ◌^◌, ◌<◌, List, get_or, refl, add-zero, pow-suc, arith}
use Rattle.little.specs.Little.{little}

pub little-below : (b : List ℕ) → ((j : ℕ) → get_or b j 0 < 256) → (n i : ℕ) → little n b i < 256 ^ n
unfolding little
little-below b below zero i = omega arith
little-below b below (suc n) i =
    let rest = little-below b below n (suc i) in
    rw (pow-suc 256 n) (omega (arith, below i, rest))

-- a number is told by its bytes, wherever they stand
pub same-bytes : (n : ℕ) (a b : List ℕ) (i k : ℕ) → ((j : ℕ) → j < n → get_or a (i + j) 0 ≡ get_or b (k + j) 0) → little n a i ≡ little n b k
unfolding little
same-bytes zero a b i k h = refl
same-bytes (suc n) a b i k h =
    let first = rw (add-zero i, add-zero k) at (h 0 (omega arith)) in
    let rest = same-bytes n a b (suc i) (suc k) (λ j l. rw (next i j, next k j) at (h (suc j) (omega (arith, l)))) in
    omega (arith, first, rest)
  where
    next : (i j : ℕ) → i + suc j ≡ suc i + j
    next i j = omega arith
