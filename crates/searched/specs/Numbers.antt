-- The number and the density of a search's answer (document 01, "The refusal list").
-- Assumes nothing.
use Rattle.std.specs.Prelude.{ℕ, Result}
use Rattle.refusals.specs.Refusals as refusals
use Rattle.refusals.specs.Answers.{number_in, value_in}
use Rattle.searched.specs.declared.SearchRefusal.{SearchRefusal}
use Rattle.searched.specs.declared.SearchRefusal.TheVariants.{Sheet, Columns, Cells, NoAssignment}

-- the number of each refusal
abbrev pub search_number : SearchRefusal → ℕ
search_number (Sheet why) = refusals.number_of why
search_number Columns = 9
search_number Cells = 10
search_number NoAssignment = 11

-- 0 with a density
abbrev pub number_of : Result ℕ SearchRefusal → ℕ
number_of answer = number_in search_number answer

-- "Each refusal carries density 0"
abbrev pub density_of : Result ℕ SearchRefusal → ℕ
density_of answer = value_in answer
