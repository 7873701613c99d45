use Rattle.std.proofs.Common.{rules, inl, inr, sym, ◌∙◌, ⊎_elim}
use Rattle.ends.specs.Pins.{pins_in}
use Rattle.tracks.proofs.Seen.{comes-first, comes_end, columns_fit}
use Rattle.tracks.proofs.two_nets.Goals as goal

pub loop-net-init : goal.loop-net-init
loop-net-init c =
    let pins = c.args.pins in
    let start = sym (comes-first (pins_in pins) (columns_fit pins.nets.now pins.columns.now c.requires)) in
    search rules

-- the nets or the columns have ended
pub returns : goal.returns
returns c =
    let l = c.loop-net in
    sym (l.invariant.1 ∙ comes_end l.found l.seen _ _ (⊎_elim (λ e. inl e.1.0) (λ e. inr e.1.0) c.in-None.ensures.steps))
