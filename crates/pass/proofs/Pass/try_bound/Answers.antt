-- `pass::Pass::try_bound` meets its contract: the filled table's last plane answers.
-- Assumes nothing.
use Rattle.std.proofs.Common.{◌∙◌, arith}
use Rattle.pass.proofs.Passes.{last_plane}
use Rattle.pass.proofs.Pass.try_bound.Goals as goal

pub returns : goal.returns
returns c =
    record {
      answer =
          c.meets.ensures
          ∙ last_plane _ _ c.args.self.plan c.args.bound _ _ _ _ c.fill.ensures
          (omega (arith, c.requires.lies.bottoms)) c.requires.lies.table.sizes.rows.1
          c.below.ensures (omega (arith, c.requires.lies.rows));
      table = c.fill.ensures;
    }
