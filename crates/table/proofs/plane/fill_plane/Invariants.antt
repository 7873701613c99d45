-- `table::fill_plane` meets its contract. The loop's invariant: the rows passed are filled, and what stands in them is in `all`.
-- Assumes nothing.
use Rattle.std.proofs.Common.{ℕ, ◌<◌, ◌≡◌, false}
use Rattle.bits.specs.Bits.{bit_of}
use Rattle.entry.specs.Entry.{cell}
use Rattle.table.proofs.Planes.{Rows}
use Rattle.table.proofs.plane.fill_plane.Given as goal

abbrev pub invariant-loop-x : goal.invariant-loop-x
invariant-loop-x l =
    let f = l.filling in
    Rows f.rules.now.words f.loads.now f.bound f.grid l.i l.j l.at l.x l.initial.work l.work
    × ((n y : ℕ) → n < l.x → y < 64 → bit_of l.all y ≡ false → cell f.rules.now.words f.loads.now f.bound l.i l.j n y ≡ false)
