-- `PinList::ends_of` meets its contract. The loop's invariant: each end is the one so far, moved on by the pins that are left.
-- Assumes nothing.
use Rattle.std.proofs.Common.{◌≡◌, ◌≤◌, min, max, drop}
use Rattle.channel.specs.Spans.{end_from, leftmost, rightmost}
use Rattle.ends.specs.Ends.{pins_of}
use Rattle.ends.specs.Pins.{pins_in}
use Rattle.ends.proofs.PinList.ends_of.Given as goal

abbrev pub invariant-loop-i : goal.invariant-loop-i
invariant-loop-i l = (l.left ≤ 255)
    × (leftmost l.net (pins_in l.self)
    ≡ end_from min l.left l.net (pins_of (drop l.i l.self.nets.now) (drop l.i l.self.columns.now)))
    × (rightmost l.net (pins_in l.self)
    ≡ end_from max l.right l.net (pins_of (drop l.i l.self.nets.now) (drop l.i l.self.columns.now)))
