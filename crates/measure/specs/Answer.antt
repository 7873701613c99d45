-- What a measurement answers (document 01, "Column, crossing, density" and "The refusal list").
-- Assumes nothing.
use Rattle.std.specs.Prelude.{ℕ, List, Result, Ok, Err}
use Rattle.channel.specs.Sheet.{Sheet}
use Rattle.channel.specs.Density.{density}
use Rattle.soundness.specs.Read.{sheet_of}
use Rattle.list.specs.Answer.{listed_of}
use Rattle.sheet.specs.declared.Layout.{Layout}
use Rattle.refusals.specs.declared.ListRefusal.{ListRefusal}

-- the density of an assignment, or why the list is none
abbrev pub measured_as : Sheet → List ℕ → Result Layout ListRefusal → Result ℕ ListRefusal
measured_as s cs (Ok n) = Ok (density s cs)
measured_as s cs (Err why) = Err why

-- of a sheet's bytes and a column list
unfoldable pub measured_of : List ℕ → List ℕ → Result ℕ ListRefusal
measured_of b cs = measured_as (sheet_of b) cs (listed_of b cs)
