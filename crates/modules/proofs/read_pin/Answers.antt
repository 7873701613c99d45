-- `modules::read_pin` meets its contract: each field is what its place holds.
-- Assumes nothing.
use Rattle.modules.specs.Bytes.{pin_at}
use Rattle.modules.proofs.read_pin.Goals as goal

pub returns : goal.returns
unfolding pin_at
returns c = cc
