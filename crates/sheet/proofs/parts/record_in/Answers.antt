-- `sheet::record_in` meets its contract: a place of the section is a record of it, and any other is nothing.
-- Assumes nothing.
use Rattle.std.proofs.Common.{Some, ap, ◌∙◌, arith}
use Rattle.sheet.proofs.Places.{entry_none, entry_found, entry-nothing}
use Rattle.sheet.proofs.parts.record_in.Goals as goal

pub returns-in_err-i : goal.returns-in_err-i
returns-in_err-i c = c.from_residual.ensures ∙ entry_none _ _ (omega (arith, c.in_err-i.ensures))

pub returns-then-i-count_in : goal.returns-then-i-count_in
returns-then-i-count_in c =
    ap Some c.terminal_at.ensures
    ∙ entry_found _ _ _ (omega (arith, c.in_ok-i.ensures)) (omega (arith, c.count_in.ensures, c.if-i-count_in.true))

pub returns-else-i-count_in : goal.returns-else-i-count_in
returns-else-i-count_in c =
    entry-nothing _ _ c.in_ok-i.i (omega (arith, c.in_ok-i.ensures)) (omega (arith, c.count_in.ensures, c.if-i-count_in.false))
