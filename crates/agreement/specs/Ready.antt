-- What a sheet's plan, rules and loads say once they are read: what the passes over the table and the walk by order go by.
-- Assumes nothing.
use Rattle.std.specs.Prelude.{ℕ, ◌+◌, ◌-◌, ◌≤◌, ◌<◌, ◌≡◌, List, false, cond, length, eqb}
use Rattle.channel.specs.Sheet.{Terminal, Sheet, Sound}
use Rattle.channel.specs.Cut.{load}
use Rattle.channel.specs.Word.Letter.{top, bottom, both}
use Rattle.arrays.specs.Loads.{load_at}
use Rattle.table.specs.Planes.{Measures}
use Rattle.pass.specs.declared.plan.Plan.{Plan}
use Rattle.rules.specs.Sides.{SideRules}
use Rattle.least_column.specs.LeastColumn.{allowed_to}

-- the loads of every cut
pub record SheetLoads (s : Sheet) (loads : List ℕ) : Type 0 where
  pub top : (i j : ℕ) → 1 ≤ i → i ≤ length s.top → j ≤ length s.bottom → load_at loads i j 0 ≡ load s top i j
  pub bottom : (i j : ℕ) → i ≤ length s.top → 1 ≤ j → j ≤ length s.bottom → load_at loads i j 1 ≡ load s bottom i j
  pub both : (i j : ℕ) → 1 ≤ i → i ≤ length s.top → 1 ≤ j → j ≤ length s.bottom → load_at loads i j 2 ≡ load s both i j

-- no set of a side has a column left of its pin's number
abbrev pub Numbered : List Terminal → Type 0
Numbered ts = (i c : ℕ) → 1 ≤ i → c < i → allowed_to ts i c ≡ false

-- the rules and the loads are the sheet's: what a walk by order goes by
pub record OrderReady (s : Sheet) (rules loads : List ℕ) : Type 0 where
  pub sound : Sound s
  pub top : SideRules 0 s.top rules
  pub bottom : SideRules 1 s.bottom rules
  pub cuts : SheetLoads s loads
  pub top_numbered : Numbered s.top
  pub bottom_numbered : Numbered s.bottom

-- the plan, the rules and the loads are the sheet's, and no side has more pins than there are columns; without top pins one row is
-- enough, and else there is one for each column that the last top pin can stand in
pub record Ready (s : Sheet) (rules loads : List ℕ) (n : Plan) : Type 0 where
  pub sound : Sound s
  pub p : n.p ≡ length s.top
  pub q : n.q ≡ length s.bottom
  pub l : n.l ≡ s.columns
  pub tops : n.p ≤ n.l
  pub bottoms : n.q ≤ n.l
  pub rows : n.grid.rows ≡ cond (eqb n.p 0) 1 (n.l - n.p + 1)
  pub across : n.grid.across ≡ n.q + 1
  pub sizes : Measures n.grid
  pub top : SideRules 0 s.top rules
  pub bottom : SideRules 1 s.bottom rules
  pub cuts : SheetLoads s loads
