-- What a plane of the table holds.
-- Assumes nothing.
use Rattle.std.specs.Prelude.{ℕ, ◌+◌, ◌*◌, List, Bool}
use Rattle.bits.specs.Bits.{bit_of}
use Rattle.cells.specs.Cells.{word_at}

-- bit y of row x of the plane whose cells start at `base`
abbrev pub held : List ℕ → ℕ → ℕ → ℕ → Bool
held work base x y = bit_of (word_at work (base + 4 * x)) y
