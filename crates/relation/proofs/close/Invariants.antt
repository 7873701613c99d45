-- `relation::close` meets its contract. The loop's invariant: what is reached through the numbers passed.
-- Assumes nothing.
use Rattle.std.proofs.Common.{ℕ, ◌<◌, ◌≡◌}
use Rattle.relation.specs.Relation.{leads_in, reaches}
use Rattle.relation.proofs.close.Given as goal

abbrev pub invariant-loop-k : goal.invariant-loop-k
invariant-loop-k l = (a b : ℕ) → b < 64 → leads_in l.words a b ≡ reaches (leads_in l.initial.words) l.k a b
