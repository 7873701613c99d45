-- `bound::next_row` meets its contract: each number comes from those before it.
-- Assumes nothing.
use Rattle.std.proofs.Common.{arith}
use Rattle.bound.proofs.LowerBound.{row_more}
use Rattle.bound.proofs.next_row.Goals as goal

pub loop-j-preserved : goal.loop-j-preserved
loop-j-preserved c =
    let a = c.args in
    let l = c.loop-j in
    rw c.lowest-before.ensures
    (row_more a.loads.now a.i a.row.now l.j l.before l.diagonal l.row c.requires.2 (omega arith) l.invariant)
