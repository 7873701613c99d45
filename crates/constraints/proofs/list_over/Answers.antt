use Rattle.std.proofs.Common.{ℕ, ◌≡◌, ◌<◌, inl, inr, ⊎_elim, rules, ap, ◌∙◌, sym, append-nil, get_or}
use Rattle.nets.proofs.Lists.{get_or-zeros}
use Rattle.ends.specs.Pins.{pins_in}
use Rattle.constraints.specs.Listed.{net_from, net_at}
use Rattle.constraints.proofs.Listed.{pins-end}
use Rattle.constraints.proofs.list_over.Goals as goal

-- at first the row is empty
pub loop-net-init : goal.loop-net-init
loop-net-init c =
    let row : (k : ℕ) → k < 256 → get_or c.put_pins.new.row k 0 ≡ net_at (pins_in c.args.bottom) k =
    λ k h. c.put_pins.ensures k h ∙ ap (λ (n : ℕ). net_from n k (pins_in c.args.bottom)) (get_or-zeros 256 k) in
    search rules

-- the nets or the columns have ended
pub returns : goal.returns
returns c =
    let l = c.loop-net in
    let none = pins-end _ _ (⊎_elim (λ e. inl e.1.0) (λ e. inr e.1.0) c.in-None.ensures.steps) in
    sym (append-nil l.found.items) ∙ rw none at l.invariant.0
