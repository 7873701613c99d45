-- `bits::bit` meets its contract: a word has no bit from 64 on, and below that the shifted word's last bit says it.
-- Assumes nothing.
use Rattle.std.proofs.Common.{sym, rules}
use Rattle.bits.specs.Bits.{bit_of}
use Rattle.bits.proofs.Laws.{bit_high}
use Rattle.bits.proofs.bit.Goals as goal

pub returns-then-k-ge64 : goal.returns-then-k-ge64
returns-then-k-ge64 c = sym (bit_high c.args.w 64 c.args.k c.ranges.w.fits c.if-k-ge64.true)

pub returns : goal.returns
unfolding bit_of
returns c = search rules
