-- `Follower::back` meets its contract. The loop's invariant: what is found are the numbers passed whose step is in range.
-- Assumes nothing.
use Rattle.std.proofs.Common.{ℕ, ◌<◌, ◌-◌, ◌≡◌, ◌&&◌, ltb}
use Rattle.bits.specs.Bits.{bit_of}
use Rattle.table.proofs.query.Follower.back.Given as goal

abbrev pub invariant-loop-y : goal.invariant-loop-y
invariant-loop-y l =
    (k : ℕ) → k < 64 → bit_of l.found k ≡ (ltb k l.y && bit_of l.self.by (l.self.at - k))
