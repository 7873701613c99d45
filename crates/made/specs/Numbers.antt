-- The number and the length of the answer about two sides of modules (document 02, T-02).
-- Assumes nothing.
use Rattle.std.specs.Prelude.{ℕ, Result}
use Rattle.refusals.specs.Refusals as refusals
use Rattle.refusals.specs.Answers.{number_in, value_in}
use Rattle.made.specs.declared.ModuleRefusal.{ModuleRefusal}
use Rattle.made.specs.declared.ModuleRefusal.TheVariants.{Sheet, Module, Edge, SheetBuffer}

-- the number of each refusal
abbrev pub module_number : ModuleRefusal → ℕ
module_number (Sheet why) = refusals.number_of why
module_number Module = 16
module_number Edge = 17
module_number SheetBuffer = 9

-- 0 with a sheet
abbrev pub number_of : Result ℕ ModuleRefusal → ℕ
number_of answer = number_in module_number answer

-- the length of the sheet, 0 with a refusal
abbrev pub length_of : Result ℕ ModuleRefusal → ℕ
length_of answer = value_in answer
