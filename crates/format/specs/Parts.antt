-- The parts of a sheet's bytes and the terminals in them (document 01, "The sheet").
-- Assumes nothing.
use Rattle.std.specs.Prelude.{ℕ, ◌+◌, ◌*◌, ◌/◌, min, ◌≡◌, List, length, take, drop}
use Rattle.std.specs.Borrow.{Bor}
use Rattle.channel.specs.Sheet.{Terminal}
use Rattle.trailer.specs.declared.Part.{Part}
use Rattle.format.specs.Format.{record_size, terminals_from}

-- the caller's own slice from an offset on, and not a copy: the part starts in the same memory, so many bytes further
pub record OwnPart (whole part : Bor (List ℕ)) (offset : ℕ) (contents : List ℕ) : Type 0 where
  pub place : part.ref_ptr ≡ (whole.ref_ptr.0, whole.ref_ptr.1 + offset)
  pub bytes : part.now ≡ contents

-- the bytes of a part, as far as they lie in b; a part that would start behind the end is the empty one at the end
unfoldable pub bytes_of : List ℕ → Part → List ℕ
bytes_of b part = take (record_size * part.count) (drop part.at b)

abbrev pub offset_of : List ℕ → Part → ℕ
offset_of b part = min part.at (length b)

-- "sections of 12-byte terminal records": the terminals of a section's bytes, one behind the other
unfoldable pub terminals_in : List ℕ → List Terminal
terminals_in part = terminals_from part 0 (length part / record_size)
