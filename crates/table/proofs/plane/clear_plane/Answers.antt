use Rattle.std.proofs.Common.{◌<◌, sym, ◌∙◌, arith}
use Rattle.bits.proofs.Laws.{bit_zero}
use Rattle.table.proofs.Planes.{rows_more}
use Rattle.table.proofs.plane.clear_plane.Goals as goal

pub loop-x-preserved : goal.loop-x-preserved
loop-x-preserved c =
    let a = c.args in
    let f = a.filling in
    let l = c.loop-x in
    let at = c.start-at.result in
    let here : l.x < f.grid.rows = omega arith in
    rw c.write_word.ensures
    (rows_more _ _ _ f.grid c.requires.0 a.i a.j at c.start-at.ensures a.work.now l.x 0 l.work here
    (omega (arith, c.start-at.ensures, c.requires.3)) (omega arith)
    (λ y h. bit_zero y ∙ sym (c.requires.5 l.x y here h)) l.invariant)
