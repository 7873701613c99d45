-- `Order::try_bound` meets its contract: each turn puts one row in.
-- Assumes nothing.
use Rattle.least.proofs.Table.{written_on}
use Rattle.least.proofs.Order.try_bound.Goals as goal

pub loop-i-preserved : goal.loop-i-preserved
loop-i-preserved c = written_on _ _ _ _ _ _ c.loop-i.i _ _ c.loop-i.invariant c.fill_row.ensures
