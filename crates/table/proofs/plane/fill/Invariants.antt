-- `table::fill` meets its contract. The loop's invariant: the planes of the numbers passed are filled, and the flags are those of the last.
-- Assumes nothing.
use Rattle.std.proofs.Common.{◌-◌, ◌*◌, ◌<◌}
use Rattle.table.specs.Planes.{Filled}
use Rattle.table.specs.Empty.{Told}
use Rattle.table.proofs.plane.fill.Given as goal

abbrev pub invariant-loop-i : goal.invariant-loop-i
invariant-loop-i l =
    let f = l.filling in
    Filled f.rules.now.words f.loads.now f.bound f.grid l.i 0 (l.i * f.grid.stride) l.initial.work l.work
    × (0 < l.i → Told f.rules.now.words f.loads.now f.bound f.grid (l.i - 1) l.flags)
