-- What the walk needs of the buffers.
-- Assumes nothing.
use Rattle.std.specs.Prelude.{ℕ, ◌+◌, ◌<◌, ◌≡◌, List}
use Rattle.entry.specs.declared.Grid.{Grid}
use Rattle.table.specs.Planes.{AsksTable}

-- the planes of 0 to p, for 0 to q bottom pins and of one row or more, lie in the work cells
pub record AsksWalk (w : List ℕ) (g : Grid) (p q : ℕ) : Type 0 where
  pub table : AsksTable w g p
  pub rows : 0 < g.rows
  pub bottoms : q + 1 ≡ g.across
