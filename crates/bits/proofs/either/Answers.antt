-- `bits::either` meets its contract.
-- Assumes nothing.
use Rattle.bits.proofs.Laws.{bit_of-bit_or}
use Rattle.bits.proofs.either.Goals as goal

pub returns : goal.returns
returns c = bit_of-bit_or c.args.a c.args.b
