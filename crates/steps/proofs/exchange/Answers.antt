-- `steps::exchange` meets its contract.
-- Assumes nothing.
use Rattle.steps.proofs.Back.{exchange_bits}
use Rattle.steps.proofs.exchange.Goals as goal

pub returns : goal.returns
returns c = λ n h. exchange_bits c.args.w c.args.by c.args.low n h c.requires.1
