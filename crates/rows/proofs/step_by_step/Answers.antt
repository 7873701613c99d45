use Rattle.std.proofs.Common.{ℕ, ◌∙◌, arith, get_or}
use Rattle.std.proofs.lemmas.List.{get_or-replicate}
use Rattle.bits.specs.Bits.{bit_of}
use Rattle.bits.proofs.Laws.{highest_bit}
use Rattle.rows.proofs.Back.{back-steps, steps_none}
use Rattle.rows.proofs.step_by_step.Goals as goal

pub loop-s-init : goal.loop-s-init
loop-s-init c =
    let a = c.args in
    rw c.requires.2 (
      λ x y h. steps_none (bit_of a.by) (λ (n y : ℕ). bit_of (get_or a.rows.now n 0) y) a.least x y (omega arith) c.requires.1,
      λ x h k. get_or-replicate 64 x 0 0 k,
    )

pub returns : goal.returns
returns c =
    let a = c.args in
    let (there, none) = highest_bit a.by c.ranges.by.fits in (
      λ x y h.
          c.loop-s.invariant.0 x y h
          ∙ back-steps (λ (n : ℕ). bit_of (get_or a.rows.now n 0) y) x (bit_of a.by) c.loop-s.s (λ k l m. none k (omega (arith, c.min-s-end.ensures))),
      c.loop-s.invariant.1,
    )
