-- `clip::from_right` meets its contract. The loop's invariant: the pins from i on are done.
-- Assumes nothing.
use Rattle.std.proofs.Common.{◌≤◌}
use Rattle.arrays.specs.Rules.{side_number}
use Rattle.clip.specs.Clip.{FromRight}
use Rattle.clip.proofs.from_right.Given as goal

abbrev pub invariant-loop-i : goal.invariant-loop-i
invariant-loop-i l = (1 ≤ l.i) × FromRight (side_number l.side) l.i l.n l.initial.rules.words l.rules.words
