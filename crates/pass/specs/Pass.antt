-- Whether every pin can be placed under a bound, in the table's own numbers; the least such bound, and the columns of its walk.
-- Assumes nothing.
use Rattle.std.specs.Prelude.{ℕ, ◌+◌, ◌-◌, ◌*◌, ◌≤◌, ◌≡◌, List, Bool, ◌&&◌, ltb}
use Rattle.channel.specs.Below.{any_below}
use Rattle.bits.specs.Bits.{in_word}
use Rattle.entry.specs.Entry.{cell}
use Rattle.table.specs.Planes.{Filled}
use Rattle.pass.specs.declared.plan.Plan.{Plan}
use Rattle.bound.specs.Least.{Least}
use Rattle.letters.specs.Walking.{whole_walk}
use Rattle.walk.specs.Walk.{choice_in}
use Rattle.walk.specs.Walking.{AsksWalk}

-- what a pass is given: the table in the work cells, and columns enough for the bottom pins
pub record AsksPass (work : List ℕ) (n : Plan) : Type 0 where
  pub lies : AsksWalk work n.grid n.p n.q
  pub bottoms : n.q ≤ n.l
  pub columns : n.l ≤ 64

-- some place of all pins, the last bottom pin in one of the columns 1 to L
unfoldable pub feasible_in : List ℕ → List ℕ → Plan → ℕ → Bool
feasible_in rules loads n bound =
    any_below n.grid.rows
    (λ (x : ℕ). in_word (λ (y : ℕ). cell rules loads bound n.p n.q x y && ltb y (n.l + 1 - n.q)))

-- the cells of the table
abbrev pub table_end : Plan → ℕ
table_end n = (n.p + 1) * n.grid.stride

-- after a pass: the table is filled, what stands behind it is as it was, and r says whether all pins can be placed
pub record Tried (rules loads : List ℕ) (n : Plan) (bound : ℕ) (old new : List ℕ) (r : Bool) : Type 0 where
  pub answer : r ≡ feasible_in rules loads n bound
  pub table : Filled rules loads bound n.grid (n.p + 1) 0 (table_end n) old new

-- after the passes: r is the least bound, and the table is that of the last pass, under r
pub record Bounded (rules loads : List ℕ) (n : Plan) (old new : List ℕ) (r : ℕ) : Type 0 where
  pub least : Least (feasible_in rules loads n) r
  pub table : Filled rules loads r n.grid (n.p + 1) 0 (table_end n) old new

-- the columns of the walk over a filled table
abbrev pub columns_in : List ℕ → List ℕ → Plan → List ℕ → List ℕ
columns_in work rules n columns =
    whole_walk (choice_in work rules n.grid n.p n.q) n.l n.p n.q columns

-- the least bound, its table, and the columns of its walk
pub record Placed (rules loads : List ℕ) (n : Plan) (old new columns columns' : List ℕ) (r : ℕ) : Type 0 where
  pub bound : Bounded rules loads n old new r
  pub written : columns' ≡ columns_in new rules n columns
