-- `bits::below` meets its contract: the high bits of a full word, shifted down.
-- Assumes nothing.
use Rattle.std.proofs.Common.{sym, ◌∙◌, arith, le-ltb, lt-ltb}
use Rattle.bits.proofs.Laws.{bit_zero, bit-full, bit_below}
use Rattle.bits.proofs.below.Goals as goal

pub returns-then-k-eq0 : goal.returns-then-k-eq0
returns-then-k-eq0 c = λ n h. bit_zero n ∙ sym (le-ltb n c.args.k (omega arith))

pub returns-then-k-ge64 : goal.returns-then-k-ge64
returns-then-k-ge64 c = λ n h. bit-full n h ∙ sym (lt-ltb n c.args.k (omega arith))

pub returns : goal.returns
returns c = λ n h. bit_below c.args.k n (omega arith)
