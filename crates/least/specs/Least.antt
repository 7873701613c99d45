-- The least column in which the last of i top and j bottom pins can stand under a bound, from the words of the rules and the loads:
-- `least_column` of the sheet that they are of.
-- Assumes nothing.
use Rattle.std.specs.Prelude.{ℕ, zero, suc, ◌-◌, ◌*◌, ◌%◌, ◌^◌, min, List, cond, leb, eqb, bit_and}
use Rattle.arrays.specs.Rules.{allowed_at}
use Rattle.arrays.specs.Loads.{load_at}
use Rattle.bits.specs.Bits.{bit_of}
use Rattle.least_column.specs.LeastColumn.{next_column}

-- the columns of the i-th pin's set as a word, with bit c - 1 for column c: bit x of its allowed word is the column x + i
abbrev pub set_at : List ℕ → ℕ → ℕ → ℕ
set_at rules side i = allowed_at rules side i * 2 ^ (i - 1) % 2 ^ 64

-- the next column of a set above m, if the load is within the bound, and else l + 1
abbrev pub next_in : ℕ → ℕ → ℕ → ℕ
next_in l set m = next_column l (λ (c : ℕ). bit_of set (c - 1)) m

abbrev pub letter_last : ℕ → ℕ → ℕ → ℕ → ℕ → ℕ
letter_last l bound load set m = cond (leb load bound) (next_in l set m) (suc l)

module _ (rules loads : List ℕ) (l bound i j : ℕ) where
  -- the column furthest right holds a top pin, a bottom pin, or both; the least column before is m
  abbrev pub top_last : ℕ → ℕ
  top_last m = letter_last l bound (load_at loads i j 0) (set_at rules 0 i) m

  abbrev pub bottom_last : ℕ → ℕ
  bottom_last m = letter_last l bound (load_at loads i j 1) (set_at rules 1 j) m

  abbrev pub both_last : ℕ → ℕ
  both_last m = letter_last l bound (load_at loads i j 2) (bit_and (set_at rules 0 i) (set_at rules 1 j)) m

  -- from the least columns of one top pin less, one bottom pin less, and one of each less; a pin that is not there is not taken
  unfoldable pub least_from : ℕ → ℕ → ℕ → ℕ
  least_from above before diagonal =
      cond (eqb i 0) (cond (eqb j 0) 0 (bottom_last before))
      (cond (eqb j 0) (top_last above) (min (top_last above) (min (bottom_last before) (both_last diagonal))))

-- by recursion on the number of top pins, and within that on the number of bottom pins
module _ (rules loads : List ℕ) (l bound : ℕ) where
  unfoldable pub bottoms_least : ℕ → ℕ
  bottoms_least zero = least_from rules loads l bound 0 0 0 0 0
  bottoms_least (suc j) = least_from rules loads l bound 0 (suc j) 0 (bottoms_least j) 0

  unfoldable pub tops_least : ℕ → (ℕ → ℕ) → ℕ → ℕ
  tops_least i less zero = least_from rules loads l bound i 0 (less 0) 0 0
  tops_least i less (suc j) = least_from rules loads l bound i (suc j) (less (suc j)) (tops_least i less j) (less j)

  unfoldable pub least_in : ℕ → ℕ → ℕ
  least_in zero j = bottoms_least j
  least_in (suc i) j = tops_least (suc i) (least_in i) j
