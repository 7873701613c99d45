-- `OrderWalk::walk` meets its contract: each letter is the walk's.
-- Assumes nothing.
use Rattle.std.proofs.Common.{◌∙◌}
use Rattle.letters.specs.Letters.{letter_number}
use Rattle.letters.proofs.Walking.{walks_on, walk_more}
use Rattle.order_walk.proofs.OrderWalk.walk.Goals as goal

pub loop-m-preserved : goal.loop-m-preserved
loop-m-preserved c =
    let o = c.loop-m in (
      rw c.behind-m.ensures (walks_on _ _ (letter_number c.choose-letter.result) o.m c.loop-m-test.true o.invariant.0),
      walk_more _ c.args.self.order.p _ o.m _ _ _ c.loop-m-test.true c.choose-letter.ensures c.behind-m.ensures c.put.ensures
          ∙ o.invariant.1,
    )
