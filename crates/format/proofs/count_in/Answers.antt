-- `format::count_in` meets its contract: as many terminals as whole records.
-- Assumes nothing.
use Rattle.format.proofs.Records.{length-terminals_in}
use Rattle.format.proofs.count_in.Goals as goal

pub returns : goal.returns
returns c = length-terminals_in _
