-- A sheet as bytes (document 01, "The sheet"): the top section, the bottom section, then the trailer, which ends in the mark.
-- Assumes nothing.
use Rattle.std.specs.Prelude.{ℕ, zero, suc, ◌+◌, ◌*◌, ◌/◌, ◌%◌, ◌^◌, ◌<◌, List, [], ◌∷◌, ◌++◌, length}
use Rattle.mark.specs.declared.Mark.{Mark}
use Rattle.mark.specs.Marks.{letters}
use Rattle.channel.specs.Sheet.{Terminal, Sheet}
use Rattle.trailer.specs.declared.Part.{Part}
use Rattle.trailer.specs.declared.Trailer.{Trailer}
use Rattle.trailer.specs.Trailer.{trailer_size}
use Rattle.format.specs.Format.{record_size}

-- "Little-endian": n in k bytes
abbrev pub bytes : ℕ → ℕ → List ℕ
bytes zero n = []
bytes (suc k) n = n % 256 ∷ bytes k (n / 256)

-- "Record: net (2 bytes), least distance (1), greatest distance (1), allowed set (8 ..)"
abbrev pub record_bytes : Terminal → List ℕ
record_bytes t = bytes 2 t.net ++ t.least ∷ t.greatest ∷ bytes 8 t.allowed

-- the records of one side, one behind the other
abbrev pub section_bytes : List Terminal → List ℕ
section_bytes [] = []
section_bytes (t ∷ ts) = record_bytes t ++ section_bytes ts

-- "top section's offset (2), top terminals p (2)", and likewise of the bottom
abbrev pub part_bytes : Part → List ℕ
part_bytes part = bytes 2 part.at ++ bytes 2 part.count

-- "Trailer: .. length L (2)", then the mark
abbrev pub trailer_bytes : Trailer → Mark → List ℕ
trailer_bytes t m = part_bytes t.top ++ part_bytes t.bottom ++ bytes 2 t.columns ++ letters m

-- "top at 0 with bottom at 12p"
abbrev pub top_first : ℕ → ℕ → ℕ → Trailer
top_first l p q = record { top = record { at = 0; count = p }; bottom = record { at = record_size * p; count = q }; columns = l }

-- the two sections of a sheet, the top first
abbrev pub sections_bytes : Sheet → List ℕ
sections_bytes s = section_bytes s.top ++ section_bytes s.bottom

-- a sheet
unfoldable pub sheet_bytes : Sheet → List ℕ
sheet_bytes s = sections_bytes s ++ trailer_bytes (top_first s.columns (length s.top) (length s.bottom)) s.mark

-- "file length 12(p+q)+12"
abbrev pub sheet_size : ℕ → ℕ → ℕ
sheet_size p q = record_size * (p + q) + trailer_size

-- the numbers of a terminal fit their bytes
pub record EncodableTerminal (t : Terminal) : Type 0 where
  pub net : t.net < 65536
  pub least : t.least < 256
  pub greatest : t.greatest < 256
  pub allowed : t.allowed < 2 ^ 64

abbrev pub EncodableSide : List Terminal → Type 0
EncodableSide [] = Unit {0}
EncodableSide (t ∷ ts) = EncodableTerminal t × EncodableSide ts

-- and so do those of a sheet
pub record Encodable (s : Sheet) : Type 0 where
  pub top : EncodableSide s.top
  pub bottom : EncodableSide s.bottom
