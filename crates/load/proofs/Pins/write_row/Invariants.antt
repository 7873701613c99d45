-- `Pins::write_row` meets its contract. The loop's invariant: the cells of the first j bottom pins are written, and `cut` is the cut there.
-- Assumes nothing.
use Rattle.std.proofs.Common.{ℕ, ◌<◌, ◌+◌, ◌≡◌}
use Rattle.cut.specs.Counts.{cut}
use Rattle.load.specs.Cuts.{Written}
use Rattle.load.proofs.Pins.write_row.Given as goal

abbrev pub invariant-loop-j : goal.invariant-loop-j
invariant-loop-j l =
    let s = l.self in
    (l.cut ≡ cut s.tops.now s.bottoms.now (l.i + 1) l.j)
    × Written s.mark s.tops.now s.bottoms.now l.initial.loads l.loads (λ (x y : ℕ). (x ≡ l.i + 1) × (y < l.j + 1))
