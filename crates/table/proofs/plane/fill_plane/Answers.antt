use Rattle.std.proofs.Common.{ℕ, ◌<◌, ◌≡◌, ◌∙◌, ap, arith, eqb-true}
use Rattle.std.proofs.lemmas.Bool.{not-false}
use Rattle.bits.specs.Bits.{bit_of}
use Rattle.bits.proofs.Laws.{bit_zero}
use Rattle.entry.specs.Entry.{cell}
use Rattle.entry.specs.Columns.{Holds}
use Rattle.table.proofs.Empty.{empty_more}
use Rattle.table.proofs.Planes.{rows_more, rows_all, letter_within}
use Rattle.table.proofs.plane.fill_plane.Goals as goal

pub row-w-requires : goal.row-w-requires
row-w-requires c =
    let a = c.args in
    let f = a.filling in
    let l = c.loop-x in
    let columns = c.columns-columns.result in
    let same = c.columns-columns.ensures in
    let alone = letter_within f.rules.now.words f.loads.now f.bound a.i a.j 0 columns.top l.x (rw (same.0, same.1, same.2) at columns.tops) in
    let paired = letter_within f.rules.now.words f.loads.now f.bound a.i a.j 2 columns.pair l.x (rw (same.0, same.1, same.2) at columns.pairs.0) in
    rw (same.0, same.1, same.2) (
      c.requires.0,
      omega arith,
      c.requires.2,
      c.start-at.ensures,
      omega (arith, c.start-at.ensures, c.requires.3),
      l.invariant.0.cells,
      λ e. c.requires.5 (alone e) l.x (omega arith),
      λ e p. c.requires.6 p (paired e) l.x (omega arith),
    )

pub loop-x-preserved : goal.loop-x-preserved
loop-x-preserved c =
    let a = c.args in
    let f = a.filling in
    let l = c.loop-x in
    let same = c.columns-columns.ensures in
    let at = c.start-at.result in
    let here : l.x < f.grid.rows = omega arith in
    let holds : Holds l.x (cell f.rules.now.words f.loads.now f.bound a.i a.j) c.row-w.result = rw (same.0, same.1, same.2) at c.row-w.ensures in (
      rw c.write_word.ensures
          (rows_more _ _ _ f.grid c.requires.0 a.i a.j at c.start-at.ensures a.work.now l.x c.row-w.result l.work here
          (omega (arith, c.start-at.ensures, c.requires.3))
          (omega (arith, c.row-w.type_inv)) holds l.invariant.0),
      empty_more f.rules.now.words f.loads.now f.bound a.i a.j l.x c.row-w.result l.all c.either-all.result holds c.either-all.ensures l.invariant.1,
    )

pub returns : goal.returns
returns c =
    let a = c.args in
    let f = a.filling in
    let l = c.loop-x in
    let whole : l.x ≡ f.grid.rows = omega arith in
    let (rows, empty) = rw whole at l.invariant in (
      rows_all _ _ _ f.grid c.requires.0 a.i a.j c.start-at.result c.start-at.ensures a.work.now l.work rows,
      λ e x y hx hy. empty x y hx hy (ap (λ (v : ℕ). bit_of v y) (eqb-true l.all 0 (not-false _ e)) ∙ bit_zero y),
    )
