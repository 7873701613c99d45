-- `modules::whole_module` meets its contract: the module's bytes are cut off the list.
-- Assumes nothing.
use Rattle.std.proofs.Common.{arith}
use Rattle.modules.proofs.Cut.{first_there}
use Rattle.modules.proofs.whole_module.Goals as goal

pub returns : goal.returns
returns c =
    let (head, rest, long) = c.in_ok-head.ensures.cases in
    first_there c.args.list.now (omega (arith, long)) head rest c.in_ok-pins.ensures.cases c.read_number.ensures.0
