-- `density::add_span` meets its contract. The loop's invariant: 1 is added to the counts passed.
-- Assumes nothing.
use Rattle.std.proofs.Common.{ℕ, ◌≡◌, ◌+◌, cond, ltb, get_or}
use Rattle.density.proofs.add_span.Given as goal

abbrev pub invariant-loop-count : goal.invariant-loop-count
invariant-loop-count l = (k : ℕ) → get_or l.count-items k 0 ≡ get_or l.initial.count-items k 0 + cond (ltb k l.count-index) 1 0
