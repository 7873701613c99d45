use Rattle.std.proofs.Common.{inl, inr, ⊎_elim}
use Rattle.constraints.proofs.Listed.{pins-end}
use Rattle.constraints.proofs.put_pins.Goals as goal

pub returns : goal.returns
returns c = λ column h.
    let l = c.loop-net in
    let none = pins-end _ _ (⊎_elim (λ e. inl e.1.0) (λ e. inr e.1.0) c.in-None.ensures.steps) in
    rw none at l.invariant.1 column h
