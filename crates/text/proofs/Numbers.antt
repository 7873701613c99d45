-- Laws of a number's digits: one digit more, and how many there are.
-- Assumes nothing.
use Rattle.std.proofs.Common.{◌≡◌, ℕ, zero, suc, ◌+◌, ◌-◌, ◌/◌, ◌%◌, ◌≤◌, Bool, true, false, cond, ltb, [], ◌∷◌, ◌++◌, length, refl, arith, length-append, le-ltb}
use Rattle.text.specs.Digits.{digits}

pub digits_more : (k n : ℕ) → (k ≡ 0 → ⊥) → 10 ≤ n → digits (k - 1) (n / 10) ++ ((48 + n % 10) ∷ []) ≡ digits k n
digits_more zero n h g = absurd (h refl)
digits_more (suc k) n h g = let e : suc k - 1 ≡ k = omega arith in rw (e, le-ltb _ _ g)

pub digits_at_most : (k n : ℕ) → length (digits k n) ≤ k
digits_at_most zero n = omega arith
digits_at_most (suc k) n = by_size (digits_at_most k (n / 10)) (ltb n 10)
  where
    by_size :
        length (digits k (n / 10)) ≤ k → (b : Bool)
        → length (cond b ((48 + n) ∷ []) (digits k (n / 10) ++ ((48 + n % 10) ∷ []))) ≤ suc k
    by_size h true = omega arith
    by_size h false = rw (length-append (digits k (n / 10)) ((48 + n % 10) ∷ [])) (omega arith)
