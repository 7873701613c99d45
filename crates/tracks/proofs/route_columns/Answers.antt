-- `tracks::route_columns` meets its contract: the nets of the pins are those of the sheet's terminals.
-- Assumes nothing.
use Rattle.std.proofs.Common.{List, ◌++◌, ◌∙◌, sym, subst}
use Rattle.channel.specs.Density.{Pin}
use Rattle.channel.specs.Sheet.{nets}
use Rattle.format.specs.Parts.{terminals_in}
use Rattle.ends.proofs.Pins.{pins-nets}
use Rattle.tracked.specs.Routed.{routed_of}
use Rattle.tracks.specs.Answer.{GivesIn}
use Rattle.tracks.proofs.route_columns.Goals as goal

pub returns : goal.returns
returns c =
    let a = c.args in
    let s = a.listed.sections in
    let terminals = terminals_in s.top.now ++ terminals_in s.bottom.now in
    let r = routed_of c.route_nets.new.spans.items c.route_nets.result in
    subst (λ (ps : List Pin). GivesIn s.mark s.shape.columns ps (nets terminals) a.room r) (sym (pins-nets terminals a.listed.columns.now))
    (rw (c.deref.ensures.0 ∙ c.list_nets.ensures) at c.route_nets.ensures)
