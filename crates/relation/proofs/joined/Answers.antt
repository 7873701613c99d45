use Rattle.std.proofs.Common.{Bool, ◌||◌, ◌∙◌, sym, ap}
use Rattle.std.proofs.Math.Bool.{and-true, and-false}
use Rattle.bits.specs.Bits.{bit_of}
use Rattle.bits.proofs.Laws.{bit_zero}
use Rattle.relation.proofs.joined.Goals as goal
use Rattle.relation.proofs.joined.Goals.{then-bit, else-bit}

pub returns : goal.returns
returns c = λ a.
    elim c.if-bit.branch [
      | then-bit w ↦ rw (c.either.ensures a, sym c.bit.ensures ∙ w.if-bit.true, w.more-is, and-true)
      | else-bit w ↦ rw (c.either.ensures a, sym c.bit.ensures ∙ w.if-bit.false, w.more-is, and-false)
          (ap (λ (b : Bool). bit_of c.args.word a || b) (bit_zero a))
    ]
