-- `table::row` meets its contract.
-- Assumes nothing.
use Rattle.std.proofs.Common.{ℕ, ◌-◌, ◌<◌, ◌∙◌, ap, arith}
use Rattle.bits.specs.Bits.{bit_of}
use Rattle.entry.specs.Entry.{cell}
use Rattle.entry.specs.Columns.{Holds}
use Rattle.table.proofs.Planes.{before_holds}
use Rattle.table.proofs.plane.row.Goals as goal
use Rattle.table.proofs.plane.row.Goals.{then-columns-eq0, else-columns-eq0}

pub word-requires : goal.word-requires
word-requires c =
    let s = c.args.columns in
    let f = s.filling in
    let before : 0 < s.j → Holds c.args.x (cell f.rules.now.words f.loads.now f.bound s.i (s.j - 1)) c.if-columns-eq0.before =
    elim c.if-columns-eq0.branch [
      | then-columns-eq0 w ↦ λ p. absurd (omega (arith, w.if-columns-eq0.true))
      | else-columns-eq0 w ↦ λ p y h. ap (λ (v : ℕ). bit_of v y) (w.before-is ∙ w.read_word-before.ensures) ∙ before_holds f.rules.now.words f.loads.now f.bound f.grid s.i s.j c.args.work.now c.requires.2 c.args.at c.args.x y p c.requires.1 h c.requires.3 c.requires.5
    ] in
    (omega (arith, c.requires.0.rows.1), c.requires.6, before, c.requires.7)
