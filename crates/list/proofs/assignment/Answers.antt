-- `list::assignment` meets its contract: the sections are those of the layout that the check gave.
-- Assumes nothing.
use Rattle.std.proofs.Common.{sym, refl, rules}
use Rattle.list.proofs.Laws.{refusal_given, sheet_given, assigned_beside}
use Rattle.list.proofs.assignment.Goals as goal

pub returns-in_err-layout : goal.returns-in_err-layout
returns-in_err-layout c = refusal_given _ _ _ _ c.in_err-layout.ensures _ (search rules)

pub invariant_of-result : goal.invariant_of-result
invariant_of-result c = record { beside = assigned_beside c.args.s c.args.columns _ (sym c.in_ok-layout.ensures) _ c.sections-sections.ensures }

pub returns : goal.returns
returns c = sheet_given _ _ _ _ c.in_ok-layout.ensures _ c.sections-sections.ensures refl
