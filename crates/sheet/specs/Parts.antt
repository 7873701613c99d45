-- The parts of a sheet's bytes: its shape, one side's section, one terminal's record (document 01, "The sheet").
-- Assumes nothing.
use Rattle.std.specs.Prelude.{ℕ, zero, suc, ◌+◌, ◌*◌, List, [], ◌∷◌, length, Result, Ok, Err, Option, Some, None}
use Rattle.mark.specs.declared.Mark.{Mark}
use Rattle.channel.specs.Sheet.{Terminal, Sheet, sheet_with, terminals}
use Rattle.channel.specs.Sheet as channel
use Rattle.terminal.specs.Terminal.{record_of}
use Rattle.channel.specs.declared.Side.{Side}
use Rattle.channel.specs.declared.Side.TheVariants.{Top, Bottom}
use Rattle.trailer.specs.declared.Trailer.{Trailer}
use Rattle.trailer.specs.Trailer.{mark_or_CP, trailer_of}
use Rattle.format.specs.Format.{part_of}
use Rattle.format.specs.Parts.{bytes_of, terminals_in}
use Rattle.soundness.specs.Check.{check_of}
use Rattle.soundness.specs.Read.{Read, read}
use Rattle.soundness.specs.Read.Read.{sound, refused}
use Rattle.sheet.specs.declared.Layout.{Layout}
use Rattle.refusals.specs.declared.Refusal.{Refusal}
use Rattle.terminal.specs.declared.Record.{Record}
use Rattle.sheet.specs.declared.Shape.{Shape}

-- "a column buffer of at least p+q bytes, and a work buffer of at least (p+1)(q+1)(L+1)² 16-bit cells"
abbrev pub cells_of : ℕ → ℕ → ℕ → ℕ
cells_of l p q = (p + 1) * (q + 1) * ((l + 1) * (l + 1))

abbrev pub shape : ℕ → ℕ → ℕ → Shape
shape l p q =
    record {
      columns = l;
      top = p;
      bottom = q;
      cells = cells_of l p q;
      pins = p + q;
    }

abbrev pub no_shape : Shape
no_shape = record { columns = 0; top = 0; bottom = 0; cells = 0; pins = 0 }

abbrev pub shape_as : Read → Shape
shape_as (sound s) = shape s.columns (length s.top) (length s.bottom)
shape_as (refused n) = no_shape

unfoldable pub shape_of : List ℕ → Shape
shape_of b = shape_as (read b)

-- a sound sheet's mark and shape, and where the trailer says that its sections stand
unfoldable pub layout_of : List ℕ → Layout
layout_of b =
    let t : Trailer = trailer_of b in
    record { mark = mark_or_CP b; shape = shape t.columns t.top.count t.bottom.count; top = t.top; bottom = t.bottom }

-- the sheet check's answer, with the layout of a sound sheet
abbrev pub opened_as : List ℕ → Result Unit Refusal → Result Layout Refusal
opened_as b (Ok tt) = Ok (layout_of b)
opened_as b (Err why) = Err why

unfoldable pub opened_of : List ℕ → Result Layout Refusal
opened_of b = opened_as b (check_of b)

-- "that section of its own sheet. A refused sheet gives the empty part; so does a side with no terminals"
abbrev pub section_as : List ℕ → Side → Result Unit Refusal → List ℕ
section_as b side (Ok tt) = bytes_of b (part_of (trailer_of b) side)
section_as b side (Err why) = []

unfoldable pub section_of : List ℕ → Side → List ℕ
section_of b side = section_as b side (check_of b)

-- where it starts: "located through the trailer's offsets"; the empty part of a refused sheet stands at its start
abbrev pub section_at_as : List ℕ → Side → Result Unit Refusal → ℕ
section_at_as b side (Ok tt) = (part_of (trailer_of b) side).at
section_at_as b side (Err why) = 0

unfoldable pub section_at : List ℕ → Side → ℕ
section_at b side = section_at_as b side (check_of b)

-- the sheet of a mark, a channel's length and two sections
abbrev pub sheet_in : Mark → ℕ → List ℕ → List ℕ → Sheet
sheet_in m l top bottom = sheet_with m l (terminals_in top) (terminals_in bottom)

-- the record at a place, from 1
abbrev pub nth : List Terminal → ℕ → Option Record
nth [] k = None
nth (t ∷ ts) zero = Some (record_of t)
nth (t ∷ ts) (suc k) = nth ts k

abbrev pub entry_of : List Terminal → ℕ → Option Record
entry_of ts zero = None
entry_of ts (suc k) = nth ts k

-- of a section's bytes
unfoldable pub entry_in : List ℕ → ℕ → Option Record
entry_in part place = entry_of (terminals_in part) place

-- of a sheet
abbrev pub side_of : Side → channel.Side
side_of Top = channel.Side.top
side_of Bottom = channel.Side.bottom

abbrev pub entry_as : Side → ℕ → Read → Option Record
entry_as side place (sound s) = entry_of (terminals s (side_of side)) place
entry_as side place (refused n) = None

unfoldable pub entry_at : List ℕ → Side → ℕ → Option Record
entry_at b side place = entry_as side place (read b)
