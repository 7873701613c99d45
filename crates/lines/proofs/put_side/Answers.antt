use Rattle.std.proofs.Common.{◌+◌, List, length, ap, sym, ◌∙◌, ⊎_elim, arith}
use Rattle.channel.specs.Sheet.{Terminal}
use Rattle.cursor.specs.Visits.{visits}
use Rattle.lines.specs.Text.{lines}
use Rattle.text.proofs.Writes.{written_nothing, behind, same_written}
use Rattle.lines.proofs.Laws.{next-line, lines-end}
use Rattle.lines.proofs.put_side.Goals as goal

pub loop-k-preserved : goal.loop-k-preserved
loop-k-preserved c =
    let s = c.in-Some.ensures.steps in
    let i = c.loop-k.invariant in
    let put = c.put_line.ensures in
    let size = ap length s.0.1 in
    let line = next-line c.args.side c.in-Some.terminal c.in-Some.column.now s.0.0 s.0.1 s.1 s.2 in (
      λ new w. i.0 new (same_written line (behind put.wrote w)),
      put.wrote.room ∙ i.1,
      omega (arith, size, put.upper_bound, i.2),
      omega (arith, size, s.2, i.3),
    )

-- the terminals or the columns have ended
pub returns-clause-wrote : goal.returns-clause-wrote
returns-clause-wrote c =
    let l = c.loop-k in
    let rest = l.k-iterator.iter.b.rest.now in
    let none =
    ⊎_elim (λ e. ap (λ (ts : List Terminal). lines (visits c.args.side (l.k-iterator.count + 1) ts) rest) e.1.0)
    (λ e. lines-end _ _ e.1.0) c.in-None.ensures.steps.0 in
    l.invariant.0 _ (same_written (sym none) written_nothing)
