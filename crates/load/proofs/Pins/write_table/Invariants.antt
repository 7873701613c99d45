-- `Pins::write_table` meets its contract. The loop's invariant: the rows of the first i top pins are written, and `cut` is the cut there.
-- Assumes nothing.
use Rattle.std.proofs.Common.{ℕ, ◌<◌, ◌+◌, ◌≡◌, length}
use Rattle.cut.specs.Counts.{cut}
use Rattle.load.specs.Cuts.{Written}
use Rattle.load.proofs.Pins.write_table.Given as goal

abbrev pub invariant-loop-i : goal.invariant-loop-i
invariant-loop-i l =
    let s = l.self in
    (l.cut ≡ cut s.tops.now s.bottoms.now l.i 0)
    × Written s.mark s.tops.now s.bottoms.now l.initial.loads l.loads (λ (x y : ℕ). (x < l.i + 1) × (y < length s.bottoms.now + 1))
