-- What is still to be said of the side is said by the terminals that are left.
use Rattle.std.proofs.Common.{◌≡◌, true}
use Rattle.format.specs.Parts.{terminals_in}
use Rattle.format.specs.Left.{terminals_left}
use Rattle.soundness.specs.Check.{side_check}
use Rattle.soundness.proofs.sides.check_side.Given as goal

abbrev pub invariant-loop-record : goal.invariant-loop-record
invariant-loop-record l =
    side_check l.columns true (terminals_in l.section) ≡ side_check l.columns l.first (terminals_left l.record-iterator)
