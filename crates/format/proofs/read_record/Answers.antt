-- `format::read_record` meets its contract: each field is what its call gave.
-- Assumes nothing.
use Rattle.format.specs.Format.{terminal_at}
use Rattle.format.proofs.read_record.Goals as goal

pub returns : goal.returns
unfolding terminal_at
returns c = cc
