-- `list::check` meets its contract: what the sheet layer refuses, then 12, then what the columns are answered.
-- Assumes nothing.
use Rattle.std.proofs.Common.{sym, arith, rules}
use Rattle.list.proofs.Columns.{sheet-refused, count-refused, beside, columns-checked}
use Rattle.list.proofs.check.Goals as goal

pub returns-then-columns-layout : goal.returns-then-columns-layout
returns-then-columns-layout c =
    count-refused c.args.s _ _ (sym c.in_ok-layout.ensures) (omega (arith, c.if-columns-layout.true))

pub invariant_of-listed : goal.invariant_of-listed
invariant_of-listed c =
    record { beside = beside c.args.s c.args.columns.now _ (sym c.in_ok-layout.ensures) c.if-columns-layout.false _ c.sections.ensures }

pub returns-in_err-layout : goal.returns-in_err-layout
returns-in_err-layout c = let e = sheet-refused _ c.args.columns.now _ (sym c.in_err-layout.ensures) in search rules

pub returns-in_err-check_columns : goal.returns-in_err-check_columns
returns-in_err-check_columns c =
    let e =
    columns-checked c.args.s _ _ (sym c.in_ok-layout.ensures) c.if-columns-layout.false _ c.sections.ensures _
    (c.in_err-check_columns.ensures _) in
    search rules

pub returns : goal.returns
returns c =
    columns-checked c.args.s _ _ (sym c.in_ok-layout.ensures) c.if-columns-layout.false _ c.sections.ensures _
    (c.in_ok-check_columns.ensures _)
