-- The unions that a plane of the table is made from, where they are used.
-- Assumes nothing.
use Rattle.std.specs.Prelude.{ℕ, ◌-◌, ◌<◌, ◌≡◌, true, List, get_or, leb}
use Rattle.arrays.specs.Loads.{load_at}
use Rattle.entry.specs.declared.Grid.{Grid}
use Rattle.entry.specs.Columns.{United}

module _ (rules loads : List ℕ) (bound : ℕ) (g : Grid) (i j : ℕ) where
  -- the word of each row is its union of the plane of one top pin less, where the load of a top pin alone is within the bound
  abbrev pub Alone : List ℕ → Type 0
  Alone words = leb (load_at loads i j 0) bound ≡ true → (x : ℕ) → x < g.rows → United rules loads bound i j x (get_or words x 0)

  -- of the plane of one pin of each side less, where that of a pair is
  abbrev pub Paired : List ℕ → Type 0
  Paired words = leb (load_at loads i j 2) bound ≡ true → (x : ℕ) → x < g.rows → United rules loads bound i (j - 1) x (get_or words x 0)

-- no word has anything
abbrev pub Zeros : Grid → List ℕ → Type 0
Zeros g words = (x : ℕ) → x < g.rows → get_or words x 0 ≡ 0
