-- `table::clear_plane` meets its contract. The loop's invariant: the rows passed are filled.
-- Assumes nothing.
use Rattle.table.proofs.Planes.{Rows}
use Rattle.table.proofs.plane.clear_plane.Given as goal

abbrev pub invariant-loop-x : goal.invariant-loop-x
invariant-loop-x l =
    let f = l.filling in
    Rows f.rules.now.words f.loads.now f.bound f.grid l.i l.j l.at l.x l.initial.work l.work
