-- The number of each refusal of a column list, and the amount that it carries (document 01, "The refusal list"; document 02, T-01).
-- Assumes nothing.
use Rattle.std.specs.Prelude.{ℕ, ℤ, pos}
use Rattle.refusals.specs.declared.ListRefusal.{ListRefusal}
use Rattle.refusals.specs.declared.ListRefusal.TheVariants.{Sheet, Count, Allowed, Distance}
use Rattle.refusals.specs.Refusals.{number_of}

abbrev pub list_number : ListRefusal → ℕ
list_number (Sheet why) = number_of why
list_number Count = 12
list_number Allowed = 13
list_number (Distance amount) = 14

-- "14 .. carries the amount; all others carry 0"
abbrev pub list_amount : ListRefusal → ℤ
list_amount (Sheet why) = pos 0
list_amount Count = pos 0
list_amount Allowed = pos 0
list_amount (Distance amount) = amount
