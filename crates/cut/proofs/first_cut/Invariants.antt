-- `cut::first_cut` meets its contract. The loop's invariant: the nets counted so far, with those that are left, are all that come in.
-- Assumes nothing.
use Rattle.std.proofs.Common.{ℕ, ◌≡◌, ◌+◌, ◌≤◌, drop}
use Rattle.kind.specs.Kinds.{kind_of, leaves_left}
use Rattle.channel.specs.Density.{weight_of, distinct}
use Rattle.cut.proofs.first_cut.Given as goal

abbrev pub invariant-loop-i : goal.invariant-loop-i
invariant-loop-i l =
    (l.count ≤ l.i)
    × (l.count + weight_of (λ (n : ℕ). leaves_left (kind_of n)) (distinct (drop l.i l.nets))
    ≡ weight_of (λ (n : ℕ). leaves_left (kind_of n)) (distinct l.nets))
