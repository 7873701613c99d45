-- `rules::greatest_of` meets its contract.
-- Assumes nothing.
use Rattle.std.proofs.Common.{◌∙◌, sym, arith}
use Rattle.rules.proofs.Ends.{greatest_some, greatest_none}
use Rattle.rules.proofs.greatest_of.Goals as goal

pub overflow_sub-result : goal.overflow_sub-result
overflow_sub-result c =
    omega (
      arith,
      c.unsigned_abs.ensures.value,
      greatest_some c.args.least c.args.greatest (omega (arith, c.ranges.least)) (omega (arith, c.ranges.greatest)) _ (sym c.amount.ensures ∙ c.in-Some.is),
    )

pub returns-in-Some : goal.returns-in-Some
returns-in-Some c =
    omega (
      arith,
      c.ranges.greatest,
      c.unsigned_abs.ensures.value,
      greatest_some c.args.least c.args.greatest (omega (arith, c.ranges.least)) (omega (arith, c.ranges.greatest)) _ (sym c.amount.ensures ∙ c.in-Some.is),
    )

pub returns-in-None : goal.returns-in-None
returns-in-None c =
    omega (
      arith,
      c.ranges.greatest,
      greatest_none c.args.least c.args.greatest (omega (arith, c.ranges.least)) (omega (arith, c.ranges.greatest)) (sym c.amount.ensures ∙ c.in-None.is),
    )
