-- `steps::steps` meets its contract: where the steps have no end, everything behind the first is reached.
-- Assumes nothing.
use Rattle.std.proofs.Common.{ℕ, ◌∙◌, ap}
use Rattle.bits.specs.Bits.{bit_of}
use Rattle.steps.proofs.Stepped.{stepped-open}
use Rattle.steps.proofs.steps.Goals as goal

pub returns-then-by-from : goal.returns-then-by-from
returns-then-by-from c = λ n h.
    let args = c.args in
    let low = c.lowest in
    c.from-then-by-from.ensures n h
    ∙ stepped-open args.w args.by low.result c.lowest-least.result n h low.ensures.1 low.ensures.2
    (λ m l. ap (λ (k : ℕ). bit_of k m) c.if-by-from.true ∙ c.from.ensures m l)
