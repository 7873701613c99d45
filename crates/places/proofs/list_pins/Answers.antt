use Rattle.std.proofs.Common.{arith}
use Rattle.channel.specs.Density.{straight}
use Rattle.places.specs.Places.{Numbers}
use Rattle.places.proofs.Numbers.{listed_more}
use Rattle.places.proofs.list_pins.Goals as goal

pub loop-i-preserved : goal.loop-i-preserved
loop-i-preserved c =
    let a = c.args in
    let l = c.loop-i in (
      omega (arith, c.push.ensures.len, l.invariant.0),
      rw c.push.ensures.items
          (listed_more (Numbers (straight a.mark a.nets.now) a.own.now a.other.now) l.pins.items _ l.i l.invariant.0 l.invariant.1 c.pin_at.ensures),
    )
