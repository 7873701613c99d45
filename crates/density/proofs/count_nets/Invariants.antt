-- `density::count_nets` meets its contract. The loop's invariant: the counts so far, with what the nets that are left still add, are the
-- crossings.
-- Assumes nothing.
use Rattle.nets.specs.Distinct.{nets_left}
use Rattle.density.proofs.Sums.{Counted}
use Rattle.density.proofs.count_nets.Given as goal

abbrev pub invariant-loop-net : goal.invariant-loop-net
invariant-loop-net l = Counted l.pins.mark l.pins.nets.now l.pins.columns.now (nets_left l.net-iterator) l.counts
