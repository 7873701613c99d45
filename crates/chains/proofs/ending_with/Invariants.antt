-- `chains::ending_with` meets its contract. The loop's invariant: the places passed at which a constraint ends with the net.
-- Assumes nothing.
use Rattle.std.proofs.Common.{ℕ, ◌≡◌, ◌<◌, ◌&&◌, eqb, ltb, length}
use Rattle.bits.specs.Bits.{bit_of}
use Rattle.chains.specs.Chains.{constraint_at}
use Rattle.chains.proofs.ending_with.Given as goal

abbrev pub invariant-loop-i : goal.invariant-loop-i
invariant-loop-i l =
    (i : ℕ) → i < length l.constraints → bit_of l.places i ≡ (ltb i l.i && eqb (constraint_at l.constraints i).under l.net)
