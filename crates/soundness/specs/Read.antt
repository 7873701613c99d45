-- What a sheet's bytes say: a sheet, or the number of the refusal (document 01, "The sheet").
-- Assumes nothing.
use Rattle.std.specs.Prelude.{ℕ, List, Result, Ok, Err}
use Rattle.channel.specs.Sheet.{Sheet, sheet_with}
use Rattle.refusals.specs.Refusals.{number_of}
use Rattle.trailer.specs.Trailer.{mark_or_CP, trailer_of}
use Rattle.refusals.specs.declared.Refusal.{Refusal}
use Rattle.soundness.specs.Check.{terminals_of, check_of}

pub data Read : Type 0 where
  sound : Sheet → Read
  refused : ℕ → Read

-- the mark, the trailer's L, and each side's records from its offset on
unfoldable pub sheet_of : List ℕ → Sheet
sheet_of b =
    sheet_with (mark_or_CP b) (trailer_of b).columns (terminals_of b (trailer_of b).top) (terminals_of b (trailer_of b).bottom)

-- a sheet that is sound, or the number of the first refusal that applies
abbrev pub read_as : Sheet → Result Unit Refusal → Read
read_as s (Ok tt) = sound s
read_as s (Err why) = refused (number_of why)

unfoldable pub read : List ℕ → Read
read b = read_as (sheet_of b) (check_of b)
