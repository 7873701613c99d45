-- `rows::add_step` meets its contract. The loop's invariant: the unions of the rows passed have theirs, and the others are as they were.
-- Assumes nothing.
use Rattle.std.proofs.Common.{ℕ, ◌-◌, ◌≤◌, ◌≡◌, ◌&&◌, ◌||◌, get_or, leb, ltb}
use Rattle.bits.specs.Bits.{bit_of}
use Rattle.rows.proofs.add_step.Given as goal

abbrev pub invariant-loop-x : goal.invariant-loop-x
invariant-loop-x l =
    ((x y : ℕ)
    → bit_of (get_or l.unions x 0) y
    ≡ ((ltb x l.x && (leb l.s x && bit_of (get_or l.rows (x - l.s) 0) y)) || bit_of (get_or l.initial.unions x 0) y))
    × ((x : ℕ) → l.count ≤ x → get_or l.unions x 0 ≡ get_or l.initial.unions x 0)
