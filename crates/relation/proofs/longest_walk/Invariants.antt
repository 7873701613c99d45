-- `relation::longest_walk` meets its contract. The loop's invariant: walks of the steps taken start at some number, and at which.
-- Assumes nothing.
use Rattle.std.proofs.Common.{ℕ, ◌<◌, ◌≡◌, ◌&&◌, ltb}
use Rattle.bits.specs.Bits.{bit_of}
use Rattle.relation.specs.Relation.{leads_in, starts, longest}
use Rattle.relation.proofs.longest_walk.Given as goal

abbrev pub invariant-loop-steps : goal.invariant-loop-steps
invariant-loop-steps l =
    ((a : ℕ) → a < 64 → bit_of l.starts a ≡ (ltb a l.n && starts (leads_in l.words) l.n l.steps a))
    × (longest (leads_in l.words) l.n l.steps ≡ l.steps)
