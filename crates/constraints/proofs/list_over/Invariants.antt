-- `constraints::list_over` meets its contract. The loop's invariant: the constraints so far, with those of the pins that are left, are all
-- of them, and the row holds what is below.
-- Assumes nothing.
use Rattle.std.proofs.Common.{ℕ, ◌≡◌, ◌≤◌, ◌<◌, ◌+◌, ◌++◌, get_or, length}
use Rattle.ends.specs.Ends.{pins_of}
use Rattle.ends.specs.Pins.{pins_in}
use Rattle.constraints.specs.Listed.{net_at, constraints_in}
use Rattle.constraints.proofs.list_over.Given as goal

abbrev pub invariant-loop-net : goal.invariant-loop-net
invariant-loop-net l =
    (l.found.items ++ constraints_in l.nets (pins_of l.net-iterator.a.rest.now l.net-iterator.b.rest.now) (net_at (pins_in l.bottom))
    ≡ constraints_in l.nets (pins_in l.top) (net_at (pins_in l.bottom)))
    × (length l.found.items + length l.net-iterator.a.rest.now ≤ 64)
    × ((c : ℕ) → c < 256 → get_or l.row c 0 ≡ net_at (pins_in l.bottom) c)
