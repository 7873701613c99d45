-- `bound::lower_bound` meets its contract. The loop's invariant: the row is that of one top pin less than i.
-- Assumes nothing.
use Rattle.std.proofs.Common.{ℕ, ◌-◌, ◌<◌, ◌≡◌, length, get_or}
use Rattle.bound.specs.LowerBound.{lower_bound}
use Rattle.bound.proofs.lower_bound.Given as goal

abbrev pub invariant-loop-i : goal.invariant-loop-i
invariant-loop-i l = 0 < l.i → (j : ℕ) → j < length l.row → get_or l.row j 0 ≡ lower_bound l.loads (l.i - 1) j
