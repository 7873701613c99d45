use Rattle.std.proofs.Common.{ℕ, ◌-◌, ◌∙◌, ap, arith}
use Rattle.steps.specs.Stepped.{covered}
use Rattle.steps.proofs.Stepped.{covered_one, spread-more}
use Rattle.steps.proofs.spread.Goals as goal

pub loop-done-init : goal.loop-done-init
loop-done-init c = (omega arith, omega arith, λ n h. covered_one c.args.w n)

pub loop-done-preserved : goal.loop-done-preserved
loop-done-preserved c =
    let l = c.loop-done in
    (omega arith, omega arith, λ n h. spread-more c.args.w l.found l.done l.done n h (omega arith) l.invariant.2)

pub returns : goal.returns
returns c = λ n h.
    let l = c.loop-done in
    let args = c.args in
    spread-more args.w l.found l.done (args.width - l.done) n h (omega arith) l.invariant.2
    ∙ ap (λ (a : ℕ). covered args.w a n) (omega arith)
