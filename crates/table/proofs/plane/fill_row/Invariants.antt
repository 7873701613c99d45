-- `table::fill_row` meets its contract. The loop's invariant: the planes passed are filled, the unions for pairs of the next one are at
-- hand, all 0 where the plane that they come from is known to be empty, and the flags are those of i up to j, and those of one top pin
-- less from j on.
-- Assumes nothing.
use Rattle.std.proofs.Common.{◌<◌, ◌≡◌, false}
use Rattle.table.specs.Planes.{Filled, base_of}
use Rattle.table.specs.United.{Paired, Zeros}
use Rattle.table.proofs.Empty.{Flags}
use Rattle.table.proofs.plane.fill_row.Given as goal

abbrev pub invariant-loop-j : goal.invariant-loop-j
invariant-loop-j l =
    let f = l.filling in
    Filled f.rules.now.words f.loads.now f.bound f.grid l.i l.j (base_of f.grid l.i l.j) l.initial.work l.work
    × (0 < l.j → l.j < f.grid.across → Paired f.rules.now.words f.loads.now f.bound f.grid l.i l.j l.diagonal)
    × (l.corner ≡ false → Zeros f.grid l.diagonal)
    × Flags f.rules.now.words f.loads.now f.bound f.grid l.i l.j l.flags l.before l.corner
