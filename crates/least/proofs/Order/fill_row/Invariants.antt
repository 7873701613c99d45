-- `Order::fill_row` meets its contract. The loop's invariant: the cells of the row up to j are in.
-- Assumes nothing.
use Rattle.least.specs.Table.{cell_of, Written}
use Rattle.least.proofs.Order.fill_row.Given as goal

abbrev pub invariant-loop-j : goal.invariant-loop-j
invariant-loop-j l =
    let s = l.self in Written s.rules.now.words s.loads.now s.l l.bound s.q (cell_of s.q l.i l.j) l.initial.work l.work
