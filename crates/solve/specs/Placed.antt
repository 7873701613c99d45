-- What the passes come to on the rules and the loads of a sheet that has an assignment.
-- Assumes nothing.
use Rattle.std.specs.Prelude.{ℕ, ◌+◌, ◌*◌, ◌≤◌, ◌≡◌, List, Some, true, length, drop}
use Rattle.channel.specs.Sheet.{Sheet}
use Rattle.channel.specs.Density.{most_density}
use Rattle.channel.specs.Best.{best}
use Rattle.reach.specs.Reach.{feasible}
use Rattle.clipped.specs.Clipped.{clipped_sheet, ClippedSheet}
use Rattle.sheet.specs.declared.Sections.{Sections}
use Rattle.sheet.specs.Sections.{sheet_held}
use Rattle.agreement.specs.Ready.{OrderReady}
use Rattle.solve.specs.Buffers.{with_columns}
use Rattle.solve.specs.Solved.{outcome_of}

-- the rules and the loads are those of the sheet t, which has p top and q bottom pins in l columns, and all its pins can be placed
pub record Placeable (rules loads : List ℕ) (l p q : ℕ) (t : Sheet) : Type 0 where
  pub ready : OrderReady t rules loads
  pub columns : l ≡ t.columns
  pub tops : p ≡ length t.top
  pub bottoms : q ≡ length t.bottom
  pub feasible_most : feasible t most_density ≡ true

-- those of some such sheet
pub record Given (rules loads : List ℕ) (l p q : ℕ) : Type 0 where
  pub sheet : Sheet
  pub is : Placeable rules loads l p q sheet

-- the cells of the table
abbrev pub table_cells : ℕ → ℕ → ℕ → ℕ
table_cells l p q = (p + 1) * (q + 1) * ((l + 1) * (l + 1))

-- so many columns and cells are enough
pub record AsksPlace (l p q columns work : ℕ) : Type 0 where
  pub room : p + q ≤ columns
  pub cells : table_cells l p q ≤ work

-- the best assignment of any such sheet is written, and what stands behind the cells is as it was
pub record BestPlaced (rules loads : List ℕ) (l p q : ℕ) (columns columns' work work' : List ℕ) (r : ℕ) : Type 0 where
  pub best_of : (t : Sheet) → Placeable rules loads l p q t → (Some r ≡ outcome_of (best t)) × (columns' ≡ with_columns (best t) columns)
  pub kept : length work' ≡ length work
  pub behind : drop (table_cells l p q) work' ≡ drop (table_cells l p q) work

-- the rules are those of two sections, clipped, and both sides are open
pub record OpenRules (m : Sections) (rules : List ℕ) : Type 0 where
  pub clipped : ClippedSheet (sheet_held m) (clipped_sheet rules (sheet_held m)) rules true
