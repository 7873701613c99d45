-- The walk from column L down over a filled table, in the table's own numbers: at each column the smallest letter after which the
-- rest can still be placed.
-- Assumes nothing.
use Rattle.std.specs.Prelude.{ℕ, suc, ◌+◌, ◌-◌, min, List, Bool, cond, ◌&&◌, leb, ltb, eqb}
use Rattle.channel.specs.Below.{any_below}
use Rattle.bits.specs.Bits.{bit_of, in_word}
use Rattle.entry.specs.declared.Grid.{Grid}
use Rattle.arrays.specs.Rules.{range_at}
use Rattle.table.specs.Planes.{held_at}
use Rattle.letters.specs.declared.Progress.{Progress}

-- every number below 64
abbrev pub ones : ℕ
ones = 18446744073709551615

-- the steps from the last pin still to be placed, of i, to the one behind it: any where there is none
abbrev pub steps_to : List ℕ → ℕ → ℕ → ℕ → ℕ
steps_to rules side i n = cond (eqb i n) ones (range_at rules side (i + 1))

-- where that one stands, less i + 1; any number from 63 on where there is none
abbrev pub stands_at : ℕ → ℕ → ℕ → ℕ
stands_at i n at = cond (eqb i n) 63 (at - (i + 1))

-- m : c columns are still to be lettered, i top and j bottom pins to be placed, and the pins placed last stand in the columns
-- top and bottom. The numbers left of the column where the last bottom pin may stand
module _ (rules : List ℕ) (q : ℕ) (m : Progress) where
  abbrev pub number_fits : ℕ → Bool
  number_fits y = bit_of (steps_to rules 1 m.j q) (stands_at m.j q m.bottom - y)

  abbrev pub lefts : ℕ → Bool
  lefts y = leb m.j (m.c - 1) && (leb y (m.c - 1 - m.j) && number_fits y)

module _ (work rules : List ℕ) (g : Grid) (p : ℕ) (m : Progress) where
  -- row x may hold the last top pin
  abbrev pub row_fits : ℕ → Bool
  row_fits x = bit_of (steps_to rules 0 m.i p) (stands_at m.i p m.top - x)

  -- row x holds a number of the set f
  abbrev pub row_meets : (ℕ → Bool) → ℕ → Bool
  row_meets f x = row_fits x && in_word (λ (y : ℕ). held_at work g m.i m.j x y && f y)

  -- some row left of the column does; the row of the column does
  abbrev pub some_left : (ℕ → Bool) → Bool
  some_left f = leb m.i (m.c - 1) && any_below (suc (min (m.c - 1 - m.i) (g.rows - 1))) (row_meets f)

  abbrev pub some_here : (ℕ → Bool) → Bool
  some_here f = ltb 0 m.i && (leb m.i m.c && (ltb (m.c - m.i) g.rows && row_meets f (m.c - m.i)))

  -- the same for a set as a word
  abbrev pub empty_meets : ℕ → Bool
  empty_meets w = some_left (bit_of w)

  abbrev pub top_meets : ℕ → Bool
  top_meets w = some_here (bit_of w)

module _ (work rules : List ℕ) (g : Grid) (p q : ℕ) (m : Progress) where
  -- the column can be empty, hold a top pin alone, or a bottom pin alone
  abbrev pub empty_fits : Bool
  empty_fits = some_left work rules g p m (lefts rules q m)

  abbrev pub top_fits : Bool
  top_fits = some_here work rules g p m (lefts rules q m)

  abbrev pub bottom_fits : Bool
  bottom_fits =
      ltb 0 m.j
      && (leb m.j m.c
      && (number_fits rules q m (m.c - m.j) && some_left work rules g p m (λ (y : ℕ). eqb y (m.c - m.j))))

  -- 0 empty, 1 top pin only, 2 bottom pin only, 3 both
  unfoldable pub choice_in : ℕ
  choice_in = cond empty_fits 0 (cond top_fits 1 (cond bottom_fits 2 3))
