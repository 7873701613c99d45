-- Where the least columns stand in the cells: that of (i, j) in the cell (q + 1) * i + j.
-- Assumes nothing.
use Rattle.std.specs.Prelude.{ℕ, ◌+◌, ◌*◌, ◌≤◌, ◌<◌, ◌≡◌, List, Bool, length, get_or, drop, leb}
use Rattle.bound.specs.Least.{Least}
use Rattle.least.specs.Least.{least_in}

-- the cell of (i, j), and the cells of all
abbrev pub cell_of : ℕ → ℕ → ℕ → ℕ
cell_of q i j = (q + 1) * i + j

abbrev pub cells_of : ℕ → ℕ → ℕ
cells_of p q = (q + 1) * (p + 1)

-- the cells before `end` hold the least columns
abbrev pub HoldsTo : List ℕ → List ℕ → ℕ → ℕ → ℕ → ℕ → List ℕ → Type 0
HoldsTo rules loads l bound q end work =
    (i j : ℕ) → j ≤ q → cell_of q i j < end → get_or work (cell_of q i j) 0 ≡ least_in rules loads l bound i j

-- so they do, and what stands behind them is as it was
pub record Written (rules loads : List ℕ) (l bound q end : ℕ) (old new : List ℕ) : Type 0 where
  pub kept : length new ≡ length old
  pub behind : drop end new ≡ drop end old
  pub cells : HoldsTo rules loads l bound q end new

-- by order alone all pins can stand within the channel
abbrev pub fits_by_order : List ℕ → List ℕ → ℕ → ℕ → ℕ → ℕ → Bool
fits_by_order rules loads l p q bound = leb (least_in rules loads l bound p q) l

-- after a pass under a bound
pub record Tried (rules loads : List ℕ) (l p q bound : ℕ) (old new : List ℕ) (r : Bool) : Type 0 where
  pub answer : r ≡ fits_by_order rules loads l p q bound
  pub table : Written rules loads l bound q (cells_of p q) old new

-- after the passes: r is the least bound, and the cells hold the least columns under it
pub record Bounded (rules loads : List ℕ) (l p q : ℕ) (old new : List ℕ) (r : ℕ) : Type 0 where
  pub least : Least (fits_by_order rules loads l p q) r
  pub table : Written rules loads l r q (cells_of p q) old new
