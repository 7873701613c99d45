-- `Follower::back` meets its contract.
-- Assumes nothing.
use Rattle.std.proofs.Common.{arith, tests}
use Rattle.bits.proofs.Laws.{bit_zero}
use Rattle.table.proofs.query.Follower.back.Goals as goal

pub loop-y-init : goal.loop-y-init
loop-y-init c = λ k h. grind (arith, tests, bit_zero)

pub loop-y-preserved : goal.loop-y-preserved
loop-y-preserved c = λ k h. grind (arith, tests)
