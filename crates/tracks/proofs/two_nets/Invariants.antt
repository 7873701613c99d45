-- `tracks::two_nets` meets its contract. The loop's invariant: a column has pins of two nets exactly if one was found so far, or a pin that
-- is left stands where one of another net was seen.
-- Assumes nothing.
use Rattle.std.proofs.Common.{◌≡◌, ◌||◌, length}
use Rattle.ends.specs.Ends.{pins_of}
use Rattle.ends.specs.Pins.{pins_in}
use Rattle.left_edge.specs.Spans.{two_nets}
use Rattle.tracks.proofs.Seen.{comes}
use Rattle.tracks.proofs.two_nets.Given as goal

abbrev pub invariant-loop-net : goal.invariant-loop-net
invariant-loop-net l = (length l.seen ≡ 256)
    × (two_nets (pins_in l.pins) ≡ (l.found || comes l.seen (pins_of l.net-iterator.a.rest.now l.net-iterator.b.rest.now)))
