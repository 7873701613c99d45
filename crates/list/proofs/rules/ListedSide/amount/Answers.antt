use Rattle.std.proofs.Common.{List, sym, ap, ◌∙◌, ⊎_elim}
use Rattle.channel.specs.Sheet.{Terminal}
use Rattle.terminal.specs.Amount.{out_of_range}
use Rattle.list.specs.Answer.{later_amount}
use Rattle.list.proofs.Sides.{later_end}
use Rattle.list.proofs.rules.ListedSide.amount.Goals as goal

-- the terminals or the columns have ended
pub returns : goal.returns
returns c =
    let l = c.loop-r in
    sym
    (ap out_of_range
    (l.invariant
    ∙ ⊎_elim (λ e. ap (λ (ts : List Terminal). later_amount ts l.before l.r-iterator.b.rest.now) e.1.0) (λ e. later_end _ _ _ e.1.0)
    c.in-None.ensures.steps))
