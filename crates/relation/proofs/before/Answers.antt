use Rattle.std.proofs.Common.{ℕ, ◌<◌, ◌∙◌, arith, leb-true, Bool, ◌≡◌, sym, ap, ◌&&◌, ◌||◌}
use Rattle.std.proofs.lemmas.Bool.{and_parts}
use Rattle.channel.specs.Below.{any_below}
use Rattle.bits.specs.Bits.{bit_of, in_word}
use Rattle.bits.proofs.Laws.{bit_zero}
use Rattle.relation.specs.Relation.{leads_in}
use Rattle.relation.proofs.Sets.{none-left, one_passed}
use Rattle.relation.proofs.before.Goals as goal

pub loop-next-init : goal.loop-next-init
loop-next-init c = (omega arith, bit_zero)

pub returns-then-b-eq64 : goal.returns-then-b-eq64
returns-then-b-eq64 c = λ a.
    let l = c.loop-next in
    let low = c.lowest-b in
    l.invariant.1 a
    ∙ none-left c.args.words.now c.args.set l.next c.from.result c.both.result low.result low.ensures.0 c.from.ensures c.both.ensures
    low.ensures.2 l.invariant.0 c.if-b-eq64.true a

pub loop-next-preserved : goal.loop-next-preserved
loop-next-preserved c =
    let l = c.loop-next in
    let low = c.lowest-b in
    let below : low.result < 64 = omega (arith, low.ensures.0, c.if-b-eq64.false) in
    let (_, beyond) =
    and_parts (bit_of c.args.set low.result) (bit_of c.from.result low.result) (sym (c.both.ensures low.result) ∙ low.ensures.1 below) in
    let behind = leb-true l.next low.result (sym (c.from.ensures low.result below) ∙ beyond) in (
      omega arith,
      λ a. c.either-found.ensures a
          ∙ ap (λ (b : Bool). leads_in c.args.words.now a low.result || b) (l.invariant.1 a)
          ∙ one_passed c.args.words.now c.args.set l.next c.from.result c.both.result low.result low.ensures.0 c.from.ensures
          c.both.ensures low.ensures.2 behind below (low.ensures.1 below) a,
    )

pub returns : goal.returns
unfolding in_word
returns c = λ a.
    let l = c.loop-next in
    let all : l.next ≡ 64 = omega (arith, l.invariant.0, c.loop-next-test.false) in
    l.invariant.1 a ∙ ap (λ (n : ℕ). any_below n (λ (b : ℕ). leads_in c.args.words.now a b && bit_of c.args.set b)) all
