-- Planes of the table that hold nothing.
-- Assumes nothing.
use Rattle.std.specs.Prelude.{ℕ, ◌<◌, ◌≡◌, false, List, Bool, get_or}
use Rattle.entry.specs.declared.Grid.{Grid}
use Rattle.entry.specs.Entry.{cell}

module _ (rules loads : List ℕ) (bound : ℕ) (g : Grid) (i : ℕ) where
  -- nothing stands in plane (i, j)
  abbrev pub Empty : ℕ → Type 0
  Empty j = (x y : ℕ) → x < g.rows → y < 64 → cell rules loads bound i j x y ≡ false

  -- the flags of the planes of i: false tells that a plane is empty, and true tells nothing
  abbrev pub Told : List Bool → Type 0
  Told flags = (j : ℕ) → j < g.across → get_or flags j false ≡ false → Empty j
