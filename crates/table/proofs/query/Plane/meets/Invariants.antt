-- `Plane::meets` meets its contract. The loop's invariant: none of the rows passed meets.
-- Assumes nothing.
use Rattle.std.proofs.Common.{ℕ, ◌-◌, ◌≡◌, false, ◌&&◌, leb}
use Rattle.channel.specs.Below.{any_below}
use Rattle.bits.specs.Bits.{bit_of, in_word}
use Rattle.table.specs.Planes.{held_at}
use Rattle.table.proofs.query.Plane.meets.Given as goal

abbrev pub invariant-loop-x : goal.invariant-loop-x
invariant-loop-x l =
    let s = l.self in
    let n = l.next in
    any_below l.x
    (λ (m : ℕ). leb l.low m && (bit_of n.by (n.at - m) && in_word (λ (y : ℕ). held_at s.work.now s.grid s.i s.j m y && bit_of l.mask y))) ≡ false
