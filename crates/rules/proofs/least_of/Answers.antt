-- `rules::least_of` meets its contract.
-- Assumes nothing.
use Rattle.std.proofs.Common.{◌∙◌, sym, arith}
use Rattle.rules.proofs.Ends.{least_some, least_none}
use Rattle.rules.proofs.least_of.Goals as goal

pub returns-in-Some : goal.returns-in-Some
returns-in-Some c =
    c.unsigned_abs.ensures.value
    ∙ least_some c.args.least c.args.greatest (omega (arith, c.ranges.least)) (omega (arith, c.ranges.greatest)) _ (sym c.amount.ensures ∙ c.in-Some.is)

pub returns-in-None : goal.returns-in-None
returns-in-None c =
    least_none c.args.least c.args.greatest (omega (arith, c.ranges.least)) (omega (arith, c.ranges.greatest)) (sym c.amount.ensures ∙ c.in-None.is)
