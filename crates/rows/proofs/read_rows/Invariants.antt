-- `rows::read_rows` meets its contract. The loop's invariant: the rows passed are read.
-- Assumes nothing.
use Rattle.std.proofs.Common.{ℕ, ◌+◌, ◌*◌, ◌<◌, ◌≡◌, length, get_or}
use Rattle.cells.specs.Cells.{word_at}
use Rattle.rows.proofs.read_rows.Given as goal

abbrev pub invariant-loop-x : goal.invariant-loop-x
invariant-loop-x l = (length l.rows ≡ 64) × ((n : ℕ) → n < l.x → get_or l.rows n 0 ≡ word_at l.work (l.base + 4 * n))
