use Rattle.std.proofs.Common.{List, sym, ap, ◌∙◌, ⊎_elim}
use Rattle.channel.specs.Sheet.{Terminal}
use Rattle.list.specs.Answer.{side_allowed}
use Rattle.list.proofs.Sides.{allowed_end}
use Rattle.list.proofs.rules.ListedSide.is_allowed.Goals as goal

-- the terminals or the columns have ended
pub returns : goal.returns
returns c =
    let l = c.loop-r in
    sym
    (l.invariant
    ∙ ⊎_elim (λ e. ap (λ (ts : List Terminal). side_allowed ts l.r-iterator.b.rest.now) e.1.0) (λ e. allowed_end _ _ e.1.0)
    c.in-None.ensures.steps)
