-- `terminal::names_above` meets its contract: a set of 64 bits names no column above 64, and below that the shifted set says it.
-- Assumes nothing.
use Rattle.std.proofs.Common.{sym, lt_of_lt_of_le, pow_mono}
use Rattle.std.proofs.lemmas.Bool.{lt-leb}
use Rattle.channel.proofs.Sets.{names_above_quotient}
use Rattle.terminal.proofs.columns.names_above.Goals as goal

pub returns-then-columns-ge64 : goal.returns-then-columns-ge64
returns-then-columns-ge64 c =
    sym (lt-leb _ _ (lt_of_lt_of_le c.ranges.set.fits (pow_mono c.if-columns-ge64.true)))

pub returns : goal.returns
returns c = names_above_quotient c.args.columns c.args.set
