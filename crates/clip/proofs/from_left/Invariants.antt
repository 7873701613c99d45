-- `clip::from_left` meets its contract. The loop's invariant: the pins up to i are done.
-- Assumes nothing.
use Rattle.arrays.specs.Rules.{side_number}
use Rattle.clip.specs.Clip.{FromLeft}
use Rattle.clip.proofs.from_left.Given as goal

abbrev pub invariant-loop-i : goal.invariant-loop-i
invariant-loop-i l = FromLeft (side_number l.side) l.i l.initial.rules.words l.rules.words
