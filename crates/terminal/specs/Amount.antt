-- Which amounts of a distance are given: those that are not 0 (document 02, T-01, "How far out is the gap?").
-- Assumes nothing.
use Rattle.std.specs.Prelude.{zero, suc, Bool, true, false, cond, ℤ, pos, negsuc, Option, Some, None}

-- whether an amount is 0: the distance is in range
abbrev pub is_zero : ℤ → Bool
is_zero (pos zero) = true
is_zero (pos (suc n)) = false
is_zero (negsuc n) = false

-- an amount that is not 0; of 0 there is none
abbrev pub out_of_range : ℤ → Option ℤ
out_of_range z = cond (is_zero z) None (Some z)
