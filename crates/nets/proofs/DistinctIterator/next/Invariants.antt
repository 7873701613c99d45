-- `Distinct::next` meets its contract. The loop's invariant: a net that is passed over is still to come.
-- Assumes nothing.
use Rattle.std.proofs.Common.{◌≡◌, length}
use Rattle.nets.specs.Distinct.{nets_left}
use Rattle.nets.proofs.DistinctIterator.next.Given as goal

abbrev pub invariant-loop-net : goal.invariant-loop-net
invariant-loop-net l = nets_left l.self ≡ nets_left l.fn.self

abbrev pub decreases-loop-net : goal.decreases-loop-net
decreases-loop-net l = length l.self.left.now
