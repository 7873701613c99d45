-- `steps::reversed` meets its contract: after the six exchanges each number stands as far from the other end.
-- Assumes nothing.
use Rattle.std.proofs.Common.{◌∙◌, ap, arith}
use Rattle.bits.specs.Bits.{bit_of}
use Rattle.steps.proofs.Back.{ones, twos, fours, eights, sixteens, thirty-twos, other_end}
use Rattle.steps.proofs.reversed.Goals as goal

pub exchange-w-requires : goal.exchange-w-requires
exchange-w-requires c = (omega arith, ones)

pub exchange-w-requires-2 : goal.exchange-w-requires-2
exchange-w-requires-2 c = (omega arith, twos)

pub exchange-w-requires-3 : goal.exchange-w-requires-3
exchange-w-requires-3 c = (omega arith, fours)

pub exchange-w-requires-4 : goal.exchange-w-requires-4
exchange-w-requires-4 c = (omega arith, eights)

pub exchange-w-requires-5 : goal.exchange-w-requires-5
exchange-w-requires-5 c = (omega arith, sixteens)

pub exchange-requires : goal.exchange-requires
exchange-requires c = (omega arith, thirty-twos)

pub returns : goal.returns
returns c = λ n h.
    let a = (thirty-twos n h).1 in
    let b = (sixteens _ a).1 in
    let d = (eights _ b).1 in
    let e = (fours _ d).1 in
    let f = (twos _ e).1 in
    c.exchange.ensures n h ∙ c.exchange-w-5.ensures _ a ∙ c.exchange-w-4.ensures _ b ∙ c.exchange-w-3.ensures _ d
    ∙ c.exchange-w-2.ensures _ e ∙ c.exchange-w.ensures _ f ∙ ap (bit_of c.args.w) (other_end n h)
