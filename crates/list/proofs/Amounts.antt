-- Laws of amounts: which are given, and which is the first that is not 0.
-- Assumes nothing.
use Rattle.std.proofs.Common.{◌≡◌, zero, suc, true, false, ◌&&◌, ℤ, pos, negsuc, Some, None, is_some, sym, refl, ap, true≢false}
use Rattle.terminal.specs.Amount.{is_zero, out_of_range}
use Rattle.list.specs.Answer.{first_of}

-- an amount that is there is not 0, and one that is not there is
pub some_amount : (z found : ℤ) → out_of_range z ≡ Some found → (is_zero z ≡ false) × (z ≡ found)
some_amount (pos zero) found e = absurd (true≢false (sym (ap is_some e)))
some_amount (pos (suc n)) found e = (refl, cc)
some_amount (negsuc n) found e = (refl, cc)

pub none_amount : (z : ℤ) → out_of_range z ≡ None → is_zero z ≡ true
none_amount (pos zero) e = refl
none_amount (pos (suc n)) e = absurd (true≢false (ap is_some e))
none_amount (negsuc n) e = absurd (true≢false (ap is_some e))

-- the first of two is 0 where both are
pub zero_first : (z next : ℤ) → is_zero (first_of z next) ≡ (is_zero z && is_zero next)
zero_first (pos zero) next = refl
zero_first (pos (suc n)) next = refl
zero_first (negsuc n) next = refl
