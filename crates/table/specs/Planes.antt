-- Where the planes of the table stand in the cells, and what a filled table is.
-- Assumes nothing.
use Rattle.std.specs.Prelude.{ℕ, suc, ◌+◌, ◌-◌, ◌*◌, ◌%◌, ◌≤◌, ◌<◌, ◌≡◌, List, Bool, ◌&&◌, ◌⊎◌, length, get_or, drop, leb}
use Rattle.channel.specs.Below.{any_below}
use Rattle.bits.specs.Bits.{bit_of, in_word}
use Rattle.entry.specs.declared.Grid.{Grid}
use Rattle.rows.specs.Held.{held}
use Rattle.entry.specs.Entry.{cell}

-- a plane has its rows, at most 64, in its cells
pub record Measures (g : Grid) : Type 0 where
  pub rows : (4 * g.rows ≤ g.size) × (g.rows ≤ 64)
  pub across : (0 < g.across) × (g.across ≤ 65)
  pub stride : g.stride ≡ g.across * g.size

-- where the cells of plane (i, j) start
abbrev pub base_of : Grid → ℕ → ℕ → ℕ
base_of g i j = i * g.stride + j * g.size

-- the planes of 0 to p lie in the cells
pub record AsksTable (work : List ℕ) (g : Grid) (p : ℕ) : Type 0 where
  pub sizes : Measures g
  pub tops : p ≤ 64
  pub room : (p + 1) * g.stride ≤ length work

-- bit y of row x of plane (i, j)
abbrev pub held_at : List ℕ → Grid → ℕ → ℕ → ℕ → ℕ → Bool
held_at work g i j x y = held work (base_of g i j) x y

-- the planes before (i, j) hold the table
abbrev pub Earlier : List ℕ → List ℕ → ℕ → Grid → ℕ → ℕ → List ℕ → Type 0
Earlier rules loads bound g i j work =
    (n m x y : ℕ) → (n < i) ⊎ ((n ≡ i) × (m < j)) → m < g.across → x < g.rows → y < 64
    → held_at work g n m x y ≡ cell rules loads bound n m x y

-- in each plane the cells behind its rows are as they were: plane follows plane, so that cell k is cell k % size of its plane
abbrev pub SameGaps : Grid → List ℕ → List ℕ → Type 0
SameGaps g old new = (k : ℕ) → 4 * g.rows ≤ k % g.size → get_or new k 0 ≡ get_or old k 0

-- the planes before (i, j) hold the table, and every cell behind their rows, or behind `end`, is as it was
pub record Filled (rules loads : List ℕ) (bound : ℕ) (g : Grid) (i j end : ℕ) (old new : List ℕ) : Type 0 where
  pub kept : length new ≡ length old
  pub behind : drop end new ≡ drop end old
  pub gaps : SameGaps g old new
  pub cells : Earlier rules loads bound g i j new

-- some row from low to high of plane (i, j), whose step to next is in `by`, holds a number of the mask
unfoldable pub meeting : List ℕ → Grid → ℕ → ℕ → ℕ → ℕ → ℕ → ℕ → ℕ → Bool
meeting work g i j low high next by mask =
    any_below (suc high) (λ (x : ℕ). leb low x && (bit_of by (next - x) && in_word (λ (y : ℕ). held_at work g i j x y && bit_of mask y)))
