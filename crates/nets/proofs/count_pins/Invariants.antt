-- `nets::count_pins` meets its contract. The loop's invariant: the pins counted and those of the nets that are left are all of them.
-- Assumes nothing.
use Rattle.std.proofs.Common.{◌≡◌, ◌≤◌, ◌+◌, drop}
use Rattle.channel.specs.Density.{pin_count}
use Rattle.nets.proofs.count_pins.Given as goal

abbrev pub invariant-loop-other : goal.invariant-loop-other
invariant-loop-other l =
    (l.count ≤ l.other-index) × (l.count + pin_count l.net (drop l.other-index l.nets) ≡ pin_count l.net l.nets)
