-- `rows::step_by_step` meets its contract. The loop's invariant: the unions by the steps passed are made, and behind the rows is zero.
-- Assumes nothing.
use Rattle.std.proofs.Common.{ℕ, ◌-◌, ◌≤◌, ◌<◌, ◌≡◌, ◌&&◌, get_or, leb}
use Rattle.channel.specs.Below.{any_below}
use Rattle.bits.specs.Bits.{bit_of}
use Rattle.rows.proofs.step_by_step.Given as goal

abbrev pub invariant-loop-s : goal.invariant-loop-s
invariant-loop-s l =
    ((x y : ℕ) → x < l.count
    → bit_of (get_or l.unions x 0) y ≡ any_below l.s (λ (k : ℕ). leb k x && (bit_of l.by k && bit_of (get_or l.rows (x - k) 0) y)))
    × ((x : ℕ) → l.count ≤ x → x < 64 → get_or l.unions x 0 ≡ 0)
