use Rattle.std.proofs.Common.{suc, ◌+◌, ◌≡◌, ◌∙◌, arith, refl, sym, ltb}
use Rattle.std.proofs.Math.Bool.{and-true}
use Rattle.relation.specs.Relation.{leads_in, starts, longest}
use Rattle.relation.proofs.Sets.{one-step, walk-goes, walk-ends, walk-settles}
use Rattle.relation.proofs.longest_walk.Goals as goal

pub loop-steps-init : goal.loop-steps-init
unfolding starts longest
loop-steps-init c = (λ a h. c.below-all.ensures a h ∙ sym (and-true (ltb a c.args.n)), refl)

pub returns-then-fewer-eq0 : goal.returns-then-fewer-eq0
returns-then-fewer-eq0 c =
    let l = c.loop-steps in
    let next =
    one-step c.args.words.now c.args.n l.steps l.starts _ _ c.requires l.invariant.0 c.before-in-loop-steps.ensures _ c.below-all.ensures
    c.both-fewer.ensures in
    walk-ends (leads_in c.args.words.now) c.args.n l.steps _ next c.requires (omega (arith, c.loop-steps-test.true)) c.if-fewer-eq0.true
    l.invariant.1

pub returns-then-fewer-starts : goal.returns-then-fewer-starts
returns-then-fewer-starts c =
    let l = c.loop-steps in
    let next =
    one-step c.args.words.now c.args.n l.steps l.starts _ _ c.requires l.invariant.0 c.before-in-loop-steps.ensures _ c.below-all.ensures
    c.both-fewer.ensures in
    walk-settles (leads_in c.args.words.now) c.args.n l.steps _ next l.starts c.requires l.invariant.0
    (omega (arith, c.loop-steps-test.true)) c.both-fewer.type_inv c.if-fewer-eq0.false c.if-fewer-starts.true

pub loop-steps-preserved : goal.loop-steps-preserved
loop-steps-preserved c =
    let l = c.loop-steps in
    let next =
    one-step c.args.words.now c.args.n l.steps l.starts _ _ c.requires l.invariant.0 c.before-in-loop-steps.ensures _ c.below-all.ensures
    c.both-fewer.ensures in
    let more : suc l.steps ≡ l.steps + 1 = omega arith in
    (rw more at next, walk-goes (leads_in c.args.words.now) c.args.n l.steps _ next c.both-fewer.type_inv c.if-fewer-eq0.false)
