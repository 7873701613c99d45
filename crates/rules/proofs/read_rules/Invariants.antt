-- `rules::read_rules` meets its contract. The loop's invariant: the rules of the terminals passed are in, and the others are left.
-- Assumes nothing.
use Rattle.std.proofs.Common.{◌≡◌, ◌≤◌, drop, length}
use Rattle.arrays.specs.Rules.{side_number}
use Rattle.format.specs.Parts.{terminals_in}
use Rattle.format.specs.Left.{terminals_left}
use Rattle.rules.proofs.Reading.{RulesTo}
use Rattle.rules.proofs.read_rules.Given as goal

abbrev pub invariant-loop-i : goal.invariant-loop-i
invariant-loop-i l =
    let ts = terminals_in l.part in
    let passed = l.i-iterator.count in
    RulesTo (side_number l.side) ts passed l.initial.rules.words l.rules.words
    × (passed ≤ length ts)
    × (drop passed ts ≡ terminals_left l.i-iterator.iter)
