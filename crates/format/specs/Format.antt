-- Where the fields of a terminal's record stand, and which part of a sheet is a side's (document 01, "The sheet").
-- Assumes nothing.
use Rattle.std.specs.Prelude.{ℕ, zero, suc, ◌+◌, List, [], ◌∷◌, get_or}
use Rattle.channel.specs.Sheet.{Terminal}
use Rattle.little.specs.Little.{little}
use Rattle.trailer.specs.declared.Part.{Part}
use Rattle.trailer.specs.declared.Trailer.{Trailer}
use Rattle.channel.specs.declared.Side.{Side}
use Rattle.channel.specs.declared.Side.TheVariants.{Top, Bottom}

-- "Record: net (2 bytes), least distance (1), greatest distance (1), allowed set (8 ..)"
abbrev pub record_size : ℕ
record_size = 12

unfoldable pub terminal_at : List ℕ → ℕ → Terminal
terminal_at b i =
    record { net = little 2 b i; least = get_or b (i + 2) 0; greatest = get_or b (i + 3) 0; allowed = little 8 b (i + 4) }

-- n records, the first at i
unfoldable pub terminals_from : List ℕ → ℕ → ℕ → List Terminal
terminals_from b i zero = []
terminals_from b i (suc n) = terminal_at b i ∷ terminals_from b (i + record_size) n

-- of two parts, that of a side
abbrev pub of_side : Part → Part → Side → Part
of_side top bottom Top = top
of_side top bottom Bottom = bottom

abbrev pub part_of : Trailer → Side → Part
part_of t side = of_side t.top t.bottom side
