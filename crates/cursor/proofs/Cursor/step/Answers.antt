-- `cursor::Cursor::step` meets its contract: the shape says on which side the next terminal stands, or that there is none.
-- Assumes nothing.
use Rattle.std.proofs.Common.{◌∙◌}
use Rattle.soundness.specs.Read.{read}
use Rattle.sheet.specs.Parts.{shape_of, entry_at}
use Rattle.cursor.specs.Visits.{step_of}
use Rattle.cursor.proofs.Steps.{step-top, step-bottom, step_end}
use Rattle.cursor.proofs.Cursor.step.Goals as goal

pub returns-then-shape-passed : goal.returns-then-shape-passed
unfolding shape_of step_of
returns-then-shape-passed c =
    let a = c.args in step_end a.self.passed (read a.s.now) (rw c.shape_of-shape.ensures at c.if-shape-passed.true)

pub returns-then-passed-top : goal.returns-then-passed-top
unfolding shape_of step_of entry_at
returns-then-passed-top c =
    let a = c.args in c.found_at.ensures ∙ step-top a.self.passed (read a.s.now)
    (rw c.shape_of-shape.ensures at c.if-passed-top.true)

pub returns-else-passed-top : goal.returns-else-passed-top
unfolding shape_of step_of entry_at
returns-else-passed-top c =
    let a = c.args in
    let e = c.shape_of-shape.ensures in
    c.found_at-else-passed-top.ensures
    ∙ rw e (step-bottom a.self.passed (read a.s.now) (rw e at c.if-passed-top.false) (rw e at c.if-shape-passed.false))
