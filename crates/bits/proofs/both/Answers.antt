-- `bits::both` meets its contract.
-- Assumes nothing.
use Rattle.bits.proofs.Laws.{bit_of-bit_and}
use Rattle.bits.proofs.both.Goals as goal

pub returns : goal.returns
returns c = bit_of-bit_and c.args.a c.args.b
