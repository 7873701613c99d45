-- `search::search_layout` meets its contract: each way out keeps the promise.
-- Assumes nothing.
use Rattle.search.proofs.Answers.{answers-columns, answers-cells, solve-asked, answers-solved}
use Rattle.search.proofs.search_layout.Goals as goal

pub returns-then-columns-shape : goal.returns-then-columns-shape
returns-then-columns-shape c =
    let a = c.args in
    answers-columns a.s a.columns.now a.work.now a.layout c.requires c.if-columns-shape.true

pub returns-then-work-shape : goal.returns-then-work-shape
returns-then-work-shape c =
    let a = c.args in
    answers-cells a.s a.columns.now a.work.now a.layout c.requires c.if-columns-shape.false c.if-work-shape.true

pub solve-requires : goal.solve-requires
solve-requires c =
    let a = c.args in
    solve-asked a.s a.columns.now a.work.now a.layout c.requires _ c.sections.ensures c.if-columns-shape.false c.if-work-shape.false

pub returns : goal.returns
returns c =
    let a = c.args in
    rw c.ok_or.ensures.value
    (answers-solved a.s a.columns.now a.work.now a.layout c.requires _ c.sections.ensures c.if-columns-shape.false c.if-work-shape.false _ _ _
    c.solve.ensures)
