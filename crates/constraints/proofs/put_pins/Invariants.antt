-- `constraints::put_pins` meets its contract. The loop's invariant: the row so far, with the pins that are left, makes the row.
-- Assumes nothing.
use Rattle.std.proofs.Common.{ℕ, ◌≡◌, ◌<◌, get_or, length}
use Rattle.ends.specs.Ends.{pins_of}
use Rattle.ends.specs.Pins.{pins_in}
use Rattle.constraints.specs.Listed.{net_from}
use Rattle.constraints.proofs.put_pins.Given as goal

abbrev pub invariant-loop-net : goal.invariant-loop-net
invariant-loop-net l =
    (length l.row ≡ 256)
    × ((c : ℕ) → c < 256
    → net_from (get_or l.row c 0) c (pins_of l.net-iterator.a.rest.now l.net-iterator.b.rest.now)
    ≡ net_from (get_or l.initial.row c 0) c (pins_in l.pins))
