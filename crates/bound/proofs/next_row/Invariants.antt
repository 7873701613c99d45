-- `bound::next_row` meets its contract. The loop's invariant: the row is of i up to j and as it was from j on, and `before` and
-- `diagonal` hold what stands left of j.
-- Assumes nothing.
use Rattle.bound.proofs.LowerBound.{Row}
use Rattle.bound.proofs.next_row.Given as goal

abbrev pub invariant-loop-j : goal.invariant-loop-j
invariant-loop-j l = Row l.loads l.i l.j l.initial.row l.row l.before l.diagonal
