-- `steps::spread` meets its contract. The loop's invariant: what is found is what is less than `done` above a number of w.
-- Assumes nothing.
use Rattle.std.proofs.Common.{ℕ, ◌-◌, ◌≤◌, ◌<◌, ◌≡◌}
use Rattle.bits.specs.Bits.{bit_of}
use Rattle.steps.specs.Stepped.{covered}
use Rattle.steps.proofs.spread.Given as goal

abbrev pub invariant-loop-done : goal.invariant-loop-done
invariant-loop-done l = (1 ≤ l.done) × (l.done ≤ l.width) × ((n : ℕ) → n < 64 → bit_of l.found n ≡ covered l.w l.done n)

abbrev pub decreases-loop-done : goal.decreases-loop-done
decreases-loop-done l = l.width - l.done
