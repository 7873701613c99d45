-- Each call of itself has a path that is longer by one net, and none has more than there is room for.
use Rattle.std.proofs.Common.{◌-◌}
use Rattle.enumeration.proofs.sheets.Pins.+goes_on_to.Given as goal

abbrev pub decreases-goes_on_to : goal.decreases-goes_on_to
decreases-goes_on_to l = 12 - l.path.len
