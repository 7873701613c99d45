-- `Order::try_bound` meets its contract. The loop's invariant: the rows up to i are in.
-- Assumes nothing.
use Rattle.least.specs.Table.{cell_of, Written}
use Rattle.least.proofs.Order.try_bound.Given as goal

abbrev pub invariant-loop-i : goal.invariant-loop-i
invariant-loop-i l =
    let s = l.self in Written s.rules.now.words s.loads.now s.l l.bound s.q (cell_of s.q l.i 0) l.initial.work l.work
