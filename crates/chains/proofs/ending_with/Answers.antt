use Rattle.std.proofs.Common.{arith, le-ltb}
use Rattle.bits.proofs.Laws.{bit_zero}
use Rattle.chains.proofs.ending_with.Goals as goal

pub loop-i-init : goal.loop-i-init
loop-i-init c = λ i h. rw (le-ltb i 0 (omega arith)) (bit_zero i)
