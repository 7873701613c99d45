-- `places::ends_of` meets its contract. The loop's invariant: the ends so far, with the pins that are left, say where the net stands.
-- Assumes nothing.
use Rattle.places.proofs.Sides.{Seen}
use Rattle.places.proofs.ends_of.Given as goal

abbrev pub invariant-loop-i : goal.invariant-loop-i
invariant-loop-i l = Seen l.net l.side l.i l.first l.last
