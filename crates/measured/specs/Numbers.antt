-- The number, the density and the amount of a measurement's answer (document 01, "The refusal list"; document 02, T-01).
-- Assumes nothing.
use Rattle.std.specs.Prelude.{ℕ, ℤ, Result}
use Rattle.refusals.specs.declared.ListRefusal.{ListRefusal}
use Rattle.refusals.specs.Lists.{list_number, list_amount}
use Rattle.refusals.specs.Answers.{number_in, amount_in, value_in}

-- the number of each refusal; 0 with a density
abbrev pub number_of : Result ℕ ListRefusal → ℕ
number_of answer = number_in list_number answer

-- "Each refusal carries density 0"
abbrev pub density_of : Result ℕ ListRefusal → ℕ
density_of answer = value_in answer

-- "14 .. carries the amount; all others carry 0"
abbrev pub amount_of : Result ℕ ListRefusal → ℤ
amount_of answer = amount_in list_amount answer
