use Rattle.std.proofs.Common.{rules}
use Rattle.nets.specs.Distinct.{nets_left}
use Rattle.density.proofs.Sums.{counted_none, counts_small, counted-more}
use Rattle.density.proofs.count_nets.Goals as goal

pub loop-net-init : goal.loop-net-init
loop-net-init c =
    let start = counted_none c.args.pins.mark c.args.pins.nets.now c.args.pins.columns.now 256 c.args.counts.now c.requires.1 in
    search rules

pub count_net-requires : goal.count_net-requires
count_net-requires c =
    let l = c.loop-net in
    let small = counts_small c.args.pins.mark c.args.pins.nets.now c.args.pins.columns.now (nets_left l.net-iterator) l.counts l.invariant in
    (c.requires.0, small c.requires.0)

pub loop-net-preserved : goal.loop-net-preserved
loop-net-preserved c =
    let l = c.loop-net in
    counted-more c.args.pins.mark c.args.pins.nets.now c.args.pins.columns.now (nets_left l.net-iterator) l.counts l.invariant c.in-Some.net
    (nets_left c.next.new.self) _ c.in-Some.ensures.steps c.count_net.ensures
