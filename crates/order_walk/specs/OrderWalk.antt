-- The walk from column L down over the least columns: at each column the smallest letter after which the rest can still be placed, by sets,
-- orders and loads alone.
-- Assumes nothing.
use Rattle.std.specs.Prelude.{ℕ, ◌-◌, List, Bool, cond, ◌&&◌, leb, ltb}
use Rattle.arrays.specs.Loads.{load_at}
use Rattle.bits.specs.Bits.{bit_of}
use Rattle.letters.specs.declared.Progress.{Progress}
use Rattle.least.specs.Least.{set_at, least_in}

-- m : c columns are still to be lettered, i top and j bottom pins to be placed. The loads are to be within the bound
module _ (rules loads : List ℕ) (l bound : ℕ) (m : Progress) where
  -- i top and j bottom pins have room left of the column
  abbrev pub rest_fits : ℕ → ℕ → Bool
  rest_fits i j = leb (least_in rules loads l bound i j) (m.c - 1)

  -- the column can hold a top pin alone, or a bottom pin alone
  abbrev pub top_fits : Bool
  top_fits =
      ltb 0 m.i && (leb (load_at loads m.i m.j 0) bound && (bit_of (set_at rules 0 m.i) (m.c - 1) && rest_fits (m.i - 1) m.j))

  abbrev pub bottom_fits : Bool
  bottom_fits =
      ltb 0 m.j && (leb (load_at loads m.i m.j 1) bound && (bit_of (set_at rules 1 m.j) (m.c - 1) && rest_fits m.i (m.j - 1)))

  -- 0 empty, 1 top pin only, 2 bottom pin only, 3 both
  unfoldable pub order_choice_in : ℕ
  order_choice_in = cond (rest_fits m.i m.j) 0 (cond top_fits 1 (cond bottom_fits 2 3))
