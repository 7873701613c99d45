-- Whoever writes the lines of the terminals that are left has written all lines.
-- Assumes nothing.
use Rattle.std.proofs.Common.{◌+◌, ◌*◌, ◌≤◌, ◌≡◌, length}
use Rattle.format.specs.Parts.{terminals_in}
use Rattle.format.specs.Left.{terminals_left}
use Rattle.cursor.specs.Visits.{visits}
use Rattle.text.specs.declared.Writer.{Writer}
use Rattle.text.specs.Writing.{Writes}
use Rattle.lines.specs.Text.{lines}
use Rattle.lines.proofs.put_side.Given as goal

abbrev pub invariant-loop-k : goal.invariant-loop-k
invariant-loop-k l =
    let rest = l.k-iterator.iter.b.rest.now in
    ((new : Writer) → Writes l.out new (lines (visits l.side (l.k-iterator.count + 1) (terminals_left l.k-iterator.iter.a)) rest)
    → Writes l.initial.out new (lines (visits l.side 1 (terminals_in l.part)) l.columns))
    × (length l.out.out.now ≡ length l.initial.out.out.now)
    × (l.out.end + 28 * length rest ≤ l.initial.out.end + 28 * length l.columns)
    × (l.k-iterator.count + length rest ≤ length l.columns)
