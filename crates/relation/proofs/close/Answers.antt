use Rattle.std.proofs.Common.{ℕ, ◌≡◌, ◌∙◌, arith, refl, ap, ap₂, suc, ◌+◌, ◌||◌, ◌&&◌, Bool}
use Rattle.relation.specs.Relation.{leads_in, reaches}
use Rattle.relation.proofs.close.Goals as goal

pub loop-k-init : goal.loop-k-init
unfolding reaches
loop-k-init c = λ a b h. refl

pub loop-k-preserved : goal.loop-k-preserved
unfolding reaches
loop-k-preserved c = λ a b h.
    let l = c.loop-k in
    let next : suc l.k ≡ l.k + 1 = omega arith in
    c.pass_through.ensures a b h
    ∙ ap₂ (λ (x y : Bool). x || y) (l.invariant a b h)
    (ap₂ (λ (x y : Bool). x && y) (l.invariant a l.k (omega (arith, c.loop-k-test.true, c.requires))) (l.invariant l.k b h))
    ∙ ap (λ (k : ℕ). reaches (leads_in c.args.words.now) k a b) next
