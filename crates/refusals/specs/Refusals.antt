-- The number of each refusal of a sheet, and the first that applies (document 01, "The refusal list").
-- Assumes nothing.
use Rattle.std.specs.Prelude.{ℕ, Bool, true, false, Result, Ok, Err}
use Rattle.refusals.specs.declared.Refusal.{Refusal}
use Rattle.refusals.specs.declared.Refusal.TheVariants.{Short, Mark, Length, Count, Layout, Net, Distance, Beyond}

abbrev pub number_of : Refusal → ℕ
number_of Short = 1
number_of Mark = 2
number_of Length = 3
number_of Count = 4
number_of Layout = 5
number_of Net = 6
number_of Distance = 7
number_of Beyond = 8

-- a check's answer: `Ok` where the sheet is sound; refused for this reason when the test holds
abbrev pub refuse : Bool → Refusal → Result Unit Refusal
refuse true why = Err why
refuse false why = Ok tt

-- the first refusal of the two
infixr 20 ◌or_else◌
abbrev pub ◌or_else◌ : Result Unit Refusal → Result Unit Refusal → Result Unit Refusal
Ok sound or_else next = next
Err why or_else next = Err why
