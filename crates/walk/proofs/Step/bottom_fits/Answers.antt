-- `Step::bottom_fits` meets its contract: the question to the table is that of the contract.
-- Assumes nothing.
use Rattle.std.proofs.Common.{◌∙◌, sym}
use Rattle.walk.proofs.Choices.{pin_below}
use Rattle.walk.proofs.Step.bottom_fits.Goals as goal

pub returns-then-near : goal.returns-then-near
returns-then-near c =
    pin_below c.args.self.walk c.args.self.m _ _ _ _ c.if-j-eq0.false c.if-c-j.false c.follower-next.ensures.0 c.follower-next.ensures.1
    (sym c.near.ensures ∙ c.if-near.true) c.single.ensures c.empty_fits.ensures
