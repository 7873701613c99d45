-- A sheet that does not open is refused, and both buffers are as they were.
use Rattle.std.proofs.Common.{rules, sym}
use Rattle.search.proofs.Answers.{answers_sheet}
use Rattle.search.proofs.search.Goals as goal

pub returns-in_err-layout : goal.returns-in_err-layout
returns-in_err-layout c =
    let a = c.args in
    let e = answers_sheet a.s a.columns.now a.work.now _ (sym c.in_err-layout.ensures) in search rules
