-- `steps::steps_back` meets its contract: where the steps have no end, everything up to the last less the first is reached, and else they
-- are steps from the other end.
-- Assumes nothing.
use Rattle.std.proofs.Common.{ℕ, ◌-◌, ◌∙◌, ap, arith, ltb}
use Rattle.std.specs.Int.Count.{count_leading_zeros}
use Rattle.bits.specs.Bits.{bit_of}
use Rattle.bits.proofs.Laws.{highest_bit}
use Rattle.steps.proofs.Back.{back-reversed, back-open}
use Rattle.steps.proofs.steps_back.Goals as goal

pub returns-then-by-from : goal.returns-then-by-from
returns-then-by-from c = λ n h.
    let args = c.args in
    let first = c.lowest-first.result in
    let (there, none) = highest_bit args.w c.ranges.w.fits in
    c.below.ensures n h ∙ ap (ltb n) c.saturating_sub.ensures
    ∙ back-open args.w args.by (64 - count_leading_zeros 64 args.w) first n (omega arith) there none
    (λ m l. ap (λ (k : ℕ). bit_of k m) c.if-by-from.true ∙ c.from.ensures m l)

pub returns : goal.returns
returns c = λ n h.
    c.reversed-2.ensures n h ∙ c.steps.ensures (63 - n) (omega arith)
    ∙ back-reversed c.args.w c.reversed.result c.args.by n h c.reversed.ensures
