-- `list::check_columns` meets its contract: each answer is that of the first of the tests that refuses, else the assignment.
-- Assumes nothing.
use Rattle.std.proofs.Common.{sym, ◌∙◌, rules}
use Rattle.sheet.specs.Sections.{sheet_held}
use Rattle.list.proofs.Columns.{top-refused, bottom-refused, distance-refused, listed}
use Rattle.list.proofs.check_columns.Goals as goal
use Rattle.list.proofs.check_columns.Goals.{then-not-is_allowed-via-then-not-is_allowed, then-not-is_allowed-via-else-not-is_allowed+then-not-is_allowed-2}

pub returns-then-not-is_allowed : goal.returns-then-not-is_allowed
returns-then-not-is_allowed c =
    λ n.
    elim c.then-not-is_allowed.branch [
      | then-not-is_allowed-via-then-not-is_allowed w ↦
          top-refused (sheet_held c.args.listed.sections) _ n _ c.args.listed.beside.tops (sym c.is_allowed.ensures ∙ w.if-not-is_allowed.true)
      | then-not-is_allowed-via-else-not-is_allowed+then-not-is_allowed-2 w ↦
          bottom-refused (sheet_held c.args.listed.sections) _ n _ c.args.listed.beside.tops (sym c.is_allowed.ensures ∙ w.if-not-is_allowed.false)
          (sym w.is_allowed-else-not-is_allowed.ensures ∙ w.if-not-is_allowed-2.true)
    ]

pub returns-in-Some : goal.returns-in-Some
returns-in-Some c =
    λ n.
    let e =
    distance-refused (sheet_held c.args.listed.sections) _ n _ c.args.listed.beside.tops
    (sym c.is_allowed.ensures ∙ c.if-not-is_allowed.false)
    (sym c.is_allowed-else-not-is_allowed.ensures ∙ c.if-not-is_allowed-2.false)
    c.in-Some.amount (sym c.in-Some.ensures) in
    search rules

pub returns-in-None : goal.returns-in-None
returns-in-None c =
    λ n.
    listed (sheet_held c.args.listed.sections) _ n _ c.args.listed.beside.tops
    (sym c.is_allowed.ensures ∙ c.if-not-is_allowed.false)
    (sym c.is_allowed-else-not-is_allowed.ensures ∙ c.if-not-is_allowed-2.false)
    (sym c.in-None.ensures)
