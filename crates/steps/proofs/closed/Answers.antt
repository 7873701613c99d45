-- `steps::closed` meets its contract: where the steps are a run, it is taken as one.
-- Assumes nothing.
use Rattle.std.proofs.Common.{ℕ, ◌-◌, ◌∙◌, ap, ap₂, Bool, ◌&&◌, arith, leb}
use Rattle.std.specs.Int.Count.{count_leading_zeros}
use Rattle.bits.specs.Bits.{bit_of}
use Rattle.bits.proofs.Laws.{bit_shl}
use Rattle.steps.proofs.Stepped.{stepped-run}
use Rattle.steps.proofs.closed.Goals as goal

pub returns-then-by-both : goal.returns-then-by-both
returns-then-by-both c = λ n h.
    let args = c.args in
    bit_shl c.spread.result args.least n h
    ∙ ap (λ (b : Bool). leb args.least n && b) (c.spread.ensures (n - args.least) (omega arith))
    ∙ stepped-run args.w args.by args.least (64 - count_leading_zeros 64 args.by) n h
    (λ m l.
    ap (λ (k : ℕ). bit_of k m) c.if-by-both.true ∙ c.both.ensures m
    ∙ ap₂ (λ (a b : Bool). a && b) (c.from.ensures m l) (c.below.ensures m l))
