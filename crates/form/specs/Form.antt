-- The form of a sheet's bytes: refusals 1 to 5 (document 01, "The sheet" and "The refusal list").
-- Assumes nothing.
use Rattle.std.specs.Prelude.{ℕ, ◌+◌, ◌*◌, List, Bool, not, ◌&&◌, ◌||◌, length, ltb, eqb, Result, is_none}
use Rattle.refusals.specs.declared.Refusal.TheVariants.{Short, Mark, Length, Count, Layout}
use Rattle.refusals.specs.Refusals.{refuse, ◌or_else◌}
use Rattle.trailer.specs.declared.Part.{Part}
use Rattle.trailer.specs.declared.Trailer.{Trailer}
use Rattle.trailer.specs.Trailer.{trailer_size, mark_of, trailer_of}
use Rattle.refusals.specs.declared.Refusal.{Refusal}
use Rattle.format.specs.Format.{record_size}

-- one section starts the file and the other stands right behind it
abbrev pub follows : Part → Part → Bool
follows first second = eqb first.at 0 && eqb second.at (record_size * first.count)

-- "The sections fill the file before the trailer: file length 12(p+q)+12, and either top at 0 with bottom at 12p, or bottom
-- at 0 with top at 12q"
unfoldable pub laid_out : Part → Part → ℕ → Bool
laid_out top bottom len =
    eqb len (record_size * (top.count + bottom.count) + trailer_size) && (follows top bottom || follows bottom top)

-- 3 to 5, of a file of len bytes
unfoldable pub trailer_check : Trailer → ℕ → Result Unit Refusal
trailer_check t len =
    refuse (eqb t.columns 0 || ltb 64 t.columns) Length
    or_else refuse (ltb 64 t.top.count || ltb 64 t.bottom.count) Count
    or_else refuse (not (laid_out t.top t.bottom len)) Layout

-- 1 to 5
unfoldable pub form_of : List ℕ → Result Unit Refusal
form_of b =
    refuse (ltb (length b) trailer_size) Short
    or_else refuse (is_none (mark_of b)) Mark
    or_else trailer_check (trailer_of b) (length b)
