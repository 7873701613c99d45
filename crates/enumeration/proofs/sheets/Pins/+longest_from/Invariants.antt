-- Each call of itself has a path that is longer by one net, and none has more than there is room for.
use Rattle.std.proofs.Common.{◌-◌}
use Rattle.enumeration.proofs.sheets.Pins.+longest_from.Given as goal

abbrev pub decreases-longest_from : goal.decreases-longest_from
decreases-longest_from l = 12 - l.path.len
