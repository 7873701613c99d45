-- What the inner search comes to on the sections of a sound sheet.
-- Assumes nothing.
use Rattle.std.specs.Prelude.{ℕ, ◌+◌, ◌-◌, ◌*◌, ◌≤◌, ◌≡◌, List, Option, Some, None, cond, length, drop, eqb}
use Rattle.channel.specs.Sheet.{Sound}
use Rattle.channel.specs.Best.{Found, best}
use Rattle.channel.specs.Best.Found.{none, found}
use Rattle.format.specs.Parts.{terminals_in}
use Rattle.sheet.specs.Parts.{shape}
use Rattle.sheet.specs.declared.Sections.{Sections}
use Rattle.sheet.specs.Sections.{sheet_held}
use Rattle.pass.specs.declared.plan.Plan.{Plan}
use Rattle.solve.specs.Buffers.{with_columns, cleared}

-- the rows of a plane: the columns in which the last top pin can stand, or one where there is none
abbrev pub rows_of : ℕ → ℕ → ℕ
rows_of l p = cond (eqb p 0) 1 (l - p + 1)

-- the measures of the table for p top and q bottom pins in l columns: its planes stand one behind the other, in four cells a row
abbrev pub plan_of : ℕ → ℕ → ℕ → Plan
plan_of l p q =
    record {
      grid = record { rows = rows_of l p; across = q + 1; size = 4 * rows_of l p; stride = (q + 1) * (4 * rows_of l p) };
      p = p;
      q = q;
      l = l;
    }

-- the shape is that of the sections, the sheet is sound, and both buffers are long enough
pub record AsksSolve (m : Sections) (columns work : ℕ) : Type 0 where
  pub sound : Sound (sheet_held m)
  pub numbers : m.shape ≡ shape m.shape.columns (length (terminals_in m.top.now)) (length (terminals_in m.bottom.now))
  pub pins : m.shape.pins ≤ columns
  pub cells : m.shape.cells ≤ work

-- the least density, if there is one
abbrev pub outcome_of : Found → Option ℕ
outcome_of none = None
outcome_of (found d cs) = Some d

-- the best assignment is written, if there is one, and only the cells needed are worked in: what stands behind them is as it was
pub record Worked (m : Sections) (columns columns' work work' : List ℕ) (r : Option ℕ) : Type 0 where
  pub outcome : r ≡ outcome_of (best (sheet_held m))
  pub written : columns' ≡ with_columns (best (sheet_held m)) columns
  pub kept : length work' ≡ length work
  pub behind : drop m.shape.cells work' ≡ drop m.shape.cells work

-- the same, with the cells needed left 0
pub record Solved (m : Sections) (columns columns' work work' : List ℕ) (r : Option ℕ) : Type 0 where
  pub outcome : r ≡ outcome_of (best (sheet_held m))
  pub written : columns' ≡ with_columns (best (sheet_held m)) columns
  pub cells : work' ≡ cleared m.shape.cells work
