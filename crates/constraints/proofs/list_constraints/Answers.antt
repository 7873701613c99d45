-- `constraints::list_constraints` meets its contract: the nets of the pins are those of the sheet's terminals, side by side.
-- Assumes nothing.
use Rattle.std.proofs.Common.{◌∙◌}
use Rattle.format.specs.Parts.{terminals_in}
use Rattle.constraints.proofs.Listed.{side_by_side}
use Rattle.constraints.proofs.list_constraints.Goals as goal

pub returns : goal.returns
returns c =
    let s = c.args.listed.sections in
    rw (c.deref.ensures.0 ∙ c.list_nets.ensures) at c.list_over.ensures
    ∙ side_by_side s.mark s.shape.columns (terminals_in s.top.now) (terminals_in s.bottom.now) c.args.listed.columns.now s.shape.top
    c.args.listed.beside.tops
