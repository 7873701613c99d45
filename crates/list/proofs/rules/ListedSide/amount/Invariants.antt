-- `ListedSide::amount` meets its contract. The loop's invariant: what is still to be said of the side is said by the terminals that are
-- left.
-- Assumes nothing.
use Rattle.std.proofs.Common.{◌≡◌}
use Rattle.format.specs.Parts.{terminals_in}
use Rattle.format.specs.Left.{terminals_left}
use Rattle.list.specs.Answer.{later_amount, side_amount}
use Rattle.list.proofs.rules.ListedSide.amount.Given as goal

abbrev pub invariant-loop-r : goal.invariant-loop-r
invariant-loop-r l =
    side_amount (terminals_in l.fn.self.part.now) l.fn.self.columns.now
    ≡ later_amount (terminals_left l.r-iterator.a) l.before l.r-iterator.b.rest.now
