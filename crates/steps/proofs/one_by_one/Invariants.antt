-- `steps::one_by_one` meets its contract. The loop's invariant: what is reached is what is found so far or is still to be found by the bits
-- that are left.
-- The measure is the number that those bits make.
-- Assumes nothing.
use Rattle.std.proofs.Common.{ℕ, ◌<◌, ◌≡◌, ◌||◌}
use Rattle.bits.specs.Bits.{bit_of}
use Rattle.steps.specs.Stepped.{stepped}
use Rattle.steps.proofs.one_by_one.Given as goal

abbrev pub invariant-loop-left : goal.invariant-loop-left
invariant-loop-left l =
    (n : ℕ) → n < 64 → stepped l.w l.by n ≡ (bit_of l.found n || stepped l.moved l.left n)

abbrev pub decreases-loop-left : goal.decreases-loop-left
decreases-loop-left l = l.left
