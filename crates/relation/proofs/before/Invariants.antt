-- `relation::before` meets its contract. The loop's invariant: what is found leads to a number of the set that is passed.
-- Assumes nothing.
use Rattle.std.proofs.Common.{ℕ, ◌-◌, ◌≤◌, ◌≡◌, ◌&&◌}
use Rattle.channel.specs.Below.{any_below}
use Rattle.bits.specs.Bits.{bit_of}
use Rattle.relation.specs.Relation.{leads_in}
use Rattle.relation.proofs.before.Given as goal

abbrev pub invariant-loop-next : goal.invariant-loop-next
invariant-loop-next l =
    (l.next ≤ 64) × ((a : ℕ) → bit_of l.found a ≡ any_below l.next (λ (b : ℕ). leads_in l.words a b && bit_of l.set b))

abbrev pub decreases-loop-next : goal.decreases-loop-next
decreases-loop-next l = 64 - l.next
