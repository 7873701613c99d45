-- Digits spell their number: read one by one they give it back. So the definition of what is written is the usual one.
-- Assumes nothing.
use Rattle.std.proofs.Common.{◌≡◌, ℕ, zero, suc, ◌+◌, ◌-◌, ◌*◌, ◌/◌, ◌^◌, ◌<◌, Bool, true, false, ltb, List, [], ◌∷◌, ◌++◌, refl, pow-suc, arith}
use Rattle.std.proofs.Math.Nat.{pow-zero}
use Rattle.text.specs.Digits.{digits, numeral}

-- the number that digits spell, after those that spell n
abbrev pub spelt : ℕ → List ℕ → ℕ
spelt n [] = n
spelt n (d ∷ ds) = spelt (10 * n + (d - 48)) ds

spelt-last : (n : ℕ) (ds : List ℕ) (d : ℕ) → spelt n (ds ++ (d ∷ [])) ≡ 10 * spelt n ds + (d - 48)
spelt-last n [] d = refl
spelt-last n (e ∷ ds) d = spelt-last (10 * n + (e - 48)) ds d

-- with as many digits as the number needs, or more
digits_spell : (k n : ℕ) → n < 10 ^ k → spelt 0 (digits k n) ≡ n
digits_spell zero n h = let one : 10 ^ 0 ≡ 1 = pow-zero 10 in omega arith
digits_spell (suc k) n h =
    let more : 10 ^ suc k ≡ 10 ^ k * 10 = pow-suc 10 k in
    let front : n / 10 < 10 ^ k = omega arith in
    by_size (digits_spell k (n / 10) front) (ltb n 10) refl
  where
    by_size : spelt 0 (digits k (n / 10)) ≡ n / 10 → (b : Bool) → ltb n 10 ≡ b → spelt 0 (digits (suc k) n) ≡ n
    by_size front true e = rw e (omega arith)
    by_size front false e = rw (e, spelt-last, front) (omega arith)

pub numeral_spells : (k n : ℕ) → n < 10 ^ k → spelt 0 (numeral k n) ≡ n
unfolding numeral
numeral_spells k n h = digits_spell k n h
