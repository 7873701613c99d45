-- `binding::none_binds` meets its contract. The loop's invariant: of no two pins before the i-th and the next is a distance out of range.
-- Assumes nothing.
use Rattle.std.proofs.Common.{false, ◌-◌, ◌≤◌, ◌≡◌}
use Rattle.arrays.specs.Rules.{side_number}
use Rattle.channel.specs.Below.{any_below}
use Rattle.binding.proofs.Binding.{pair_out}
use Rattle.binding.proofs.none_binds.Given as goal

abbrev pub invariant-loop-i : goal.invariant-loop-i
invariant-loop-i l =
    (1 ≤ l.i) × (l.i - 1 ≤ l.n - 1) × (any_below (l.i - 1) (pair_out l.rules.words (side_number l.side)) ≡ false)
