-- `ListedSide::is_allowed` meets its contract. The loop's invariant: what is still to be said of the side is said by the terminals that
-- are left.
-- Assumes nothing.
use Rattle.std.proofs.Common.{◌≡◌}
use Rattle.format.specs.Parts.{terminals_in}
use Rattle.format.specs.Left.{terminals_left}
use Rattle.list.specs.Answer.{side_allowed}
use Rattle.list.proofs.rules.ListedSide.is_allowed.Given as goal

abbrev pub invariant-loop-r : goal.invariant-loop-r
invariant-loop-r l =
    side_allowed (terminals_in l.self.part.now) l.self.columns.now ≡ side_allowed (terminals_left l.r-iterator.a) l.r-iterator.b.rest.now
