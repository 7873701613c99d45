-- The least density that the loads leave, with sets, distances and the channel's length left aside: "LB" in document 003's table 1.
-- No bound below it can be met.
-- Assumes nothing.
use Rattle.std.specs.Prelude.{ℕ, zero, suc, min, max, List, cond, eqb}
use Rattle.arrays.specs.Loads.{load_at}

module _ (loads : List ℕ) (i j : ℕ) where
  -- of i top and j bottom pins, from one top pin less, one bottom pin less, and one of each less: the last column holds a top pin,
  -- a bottom pin, or both
  abbrev pub top_last : ℕ → ℕ
  top_last above = max above (load_at loads i j 0)

  abbrev pub bottom_last : ℕ → ℕ
  bottom_last before = max before (load_at loads i j 1)

  abbrev pub both_last : ℕ → ℕ
  both_last diagonal = max diagonal (load_at loads i j 2)

  -- a pin that is not there is not taken
  unfoldable pub lowest : ℕ → ℕ → ℕ → ℕ
  lowest above before diagonal =
      cond (eqb i 0) (cond (eqb j 0) 0 (bottom_last before))
      (cond (eqb j 0) (top_last above) (min (top_last above) (min (bottom_last before) (both_last diagonal))))

-- by recursion on the number of top pins, and within that on the number of bottom pins
module _ (loads : List ℕ) where
  unfoldable pub bottoms_lowest : ℕ → ℕ
  bottoms_lowest zero = lowest loads 0 0 0 0 0
  bottoms_lowest (suc j) = lowest loads 0 (suc j) 0 (bottoms_lowest j) 0

  unfoldable pub tops_lowest : ℕ → (ℕ → ℕ) → ℕ → ℕ
  tops_lowest i less zero = lowest loads i 0 (less 0) 0 0
  tops_lowest i less (suc j) = lowest loads i (suc j) (less (suc j)) (tops_lowest i less j) (less j)

  unfoldable pub lower_bound : ℕ → ℕ → ℕ
  lower_bound zero j = bottoms_lowest j
  lower_bound (suc i) j = tops_lowest (suc i) (lower_bound i) j
