-- `sheet::layout_of` meets its contract: the mark, and the trailer's numbers, which are within their limits.
-- Assumes nothing.
use Rattle.std.proofs.Common.{◌≡◌, ℕ, List, Ok}
use Rattle.trailer.specs.declared.Trailer.{Trailer}
use Rattle.soundness.specs.Check.{check_of}
use Rattle.trailer.specs.Trailer.{trailer_of, TrailerRead}
use Rattle.sheet.specs.Parts.{layout_of}
use Rattle.sheet.proofs.Places.{sound_form, sound-limits}
use Rattle.sheet.proofs.parts.layout_of.Goals as goal

-- a sheet that the check leaves has its trailer's bytes
trailer : (b : List ℕ) (t : Trailer) → TrailerRead b t → check_of b ≡ Ok tt → t ≡ trailer_of b
trailer b t told sounds = told.long (sound_form b sounds).long

pub cells_needed-requires : goal.cells_needed-requires
cells_needed-requires c = sound-limits _ c.requires _ (trailer _ _ c.read_trailer-t.ensures c.requires)

pub returns : goal.returns
unfolding layout_of
returns c = rw (c.unwrap_or-mark.ensures, c.read_mark.ensures, c.cells_needed.ensures, trailer _ _ c.read_trailer-t.ensures c.requires)
