-- `bits::single` meets its contract.
-- Assumes nothing.
use Rattle.bits.proofs.Laws.{bit-single}
use Rattle.bits.proofs.single.Goals as goal

pub returns : goal.returns
returns c = bit-single c.args.k
