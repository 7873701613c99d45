-- What 16 and 17 leave of a module that is written: its pins' sets and distances fit their bytes.
-- Assumes nothing.
use Rattle.std.specs.Prelude.{ℕ, ◌-◌, ◌*◌, ◌^◌, ◌≤◌, ◌<◌, List, [], ◌∷◌, ◌≡◌, true}
use Rattle.modules.specs.declared.Pin.{Pin}
use Rattle.modules.specs.Modules.{Module, is_rising, is_valid}

-- a set of left edges, moved right to the module's last column, fits 8 bytes
abbrev pub Room : ℕ → ℕ → Type 0
Room width edges = (width ≤ 64) × (edges * 2 ^ (width - 1) < 2 ^ 64)

-- pins behind one at `before`
abbrev pub Later : ℕ → ℕ → ℕ → List Pin → Type 0
Later width edges before ps = Room width edges × (is_rising width before ps ≡ true)

abbrev pub Writable : Module → Type 0
Writable m = Room m.width m.edges × (is_valid m ≡ true)

abbrev pub AllWritable : List Module → Type 0
AllWritable [] = Unit {0}
AllWritable (m ∷ ms) = Writable m × AllWritable ms
