-- `bits::from` meets its contract: a full word shifted down and up again.
-- Assumes nothing.
use Rattle.std.proofs.Common.{sym, ◌∙◌, arith}
use Rattle.std.proofs.lemmas.Bool.{lt-leb}
use Rattle.bits.proofs.Laws.{bit_zero, bit-from}
use Rattle.bits.proofs.from.Goals as goal

pub returns-then-k-ge64 : goal.returns-then-k-ge64
returns-then-k-ge64 c = λ n h. bit_zero n ∙ sym (lt-leb c.args.k n (omega arith))

pub returns : goal.returns
returns c = bit-from c.args.k
