use Rattle.std.proofs.Common.{ℕ, ◌∙◌, sym, ap, ◌||◌}
use Rattle.std.proofs.Math.Bool.{or-false}
use Rattle.bits.specs.Bits.{bit_of}
use Rattle.steps.specs.Stepped.{stepped}
use Rattle.bits.proofs.Laws.{bit_zero}
use Rattle.steps.proofs.Stepped.{stepped-none, odd_turn, even_turn}
use Rattle.steps.proofs.one_by_one.Goals as goal
use Rattle.steps.proofs.one_by_one.Goals.{then-left-eq1, else-left-eq1}

pub loop-left-init : goal.loop-left-init
loop-left-init c = λ n h. rw (bit_zero n)

pub loop-left-preserved : goal.loop-left-preserved
loop-left-preserved c =
    let l = c.loop-left in
    elim c.if-left-eq1.branch [
      | then-left-eq1 w ↦ λ n h. l.invariant n h ∙ odd_turn l.moved l.left l.found n h w.if-left-eq1.true ∙ rw w.found-is
      | else-left-eq1 w ↦ λ n h. l.invariant n h ∙ even_turn l.moved l.left l.found n h w.if-left-eq1.false ∙ rw w.found-is
    ]

pub returns : goal.returns
returns c = λ n h.
    let l = c.loop-left in
    sym (l.invariant n h ∙ ap (λ (k : ℕ). bit_of l.found n || stepped l.moved k n) c.loop-left-test.false
    ∙ rw (stepped-none l.moved n) (or-false (bit_of l.found n)))
