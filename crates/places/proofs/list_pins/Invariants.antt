-- `places::list_pins` meets its contract. The loop's invariant: the numbers of the first i pins are in the list.
-- Assumes nothing.
use Rattle.std.proofs.Common.{ℕ, ◌≡◌, ◌<◌, length, get_or}
use Rattle.channel.specs.Density.{straight}
use Rattle.places.specs.Places.{Numbers}
use Rattle.places.specs.declared.PinPlaces.{PinPlaces}
use Rattle.places.proofs.list_pins.Given as goal

abbrev pub invariant-loop-i : goal.invariant-loop-i
invariant-loop-i l =
    (length l.pins.items ≡ l.i)
    × ((k : ℕ) (d : PinPlaces) → k < l.i → Numbers (straight l.mark l.nets) l.own l.other k (get_or l.pins.items k d))
