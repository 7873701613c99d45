-- `rows::all_before` meets its contract. The loop's invariant: the unions of the rows passed are made, the last is what is found, and
-- behind the rows is zero.
-- Assumes nothing.
use Rattle.std.proofs.Common.{ℕ, ◌≤◌, ◌<◌, ◌≡◌, length, get_or}
use Rattle.bits.specs.Bits.{bit_of}
use Rattle.rows.proofs.Back.{Found, Made}
use Rattle.rows.proofs.all_before.Given as goal

abbrev pub invariant-loop-x : goal.invariant-loop-x
invariant-loop-x l =
    Found (λ (n y : ℕ). bit_of (get_or l.rows n 0) y) l.least l.x l.found
    × (length l.unions ≡ 64)
    × Made (λ (n y : ℕ). bit_of (get_or l.rows n 0) y) l.least l.x l.unions
    × ((x : ℕ) → l.count ≤ x → x < 64 → get_or l.unions x 0 ≡ 0)
