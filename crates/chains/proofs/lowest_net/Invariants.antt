-- `chains::lowest_net` meets its contract. The loop's invariant: the lowest net of the places passed.
-- Assumes nothing.
use Rattle.std.proofs.Common.{ℕ, ◌≡◌}
use Rattle.relation.specs.Relation.{leads_in}
use Rattle.chains.specs.Chains.{constraint_at, least}
use Rattle.chains.proofs.lowest_net.Given as goal

abbrev pub invariant-loop-i : goal.invariant-loop-i
invariant-loop-i l =
    l.lowest ≡ least (λ (i : ℕ). leads_in l.words i i) (λ (i : ℕ). (constraint_at l.constraints i).over) l.i
