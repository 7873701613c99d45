-- `nets::occurs` meets its contract: the fold asks each net in turn.
-- Assumes nothing.
use Rattle.std.proofs.Common.{ℕ, Bool, false, ◌||◌, eqb, rules, tests, ◌∙◌}
use Rattle.std.proofs.lemmas.Iterator.{YieldsList-from_slice}
use Rattle.std.proofs.lemmas.Iterator.Consumers.{fold_from_yields_List}
use Rattle.nets.proofs.Lists.{any-fold}
use Rattle.nets.proofs.occurs.Goals as goal

pub returns : goal.returns
returns c =
    let a = c.args in
    fold_from_yields_List _ (λ (found : Bool) (other : ℕ). found || eqb a.net other) false c.fold.result c.fold.ensures.ran
    (YieldsList-from_slice a.nets.now (cc)) (λ b x r q k. search (rules, tests))
    ∙ any-fold (eqb a.net) false a.nets.now
