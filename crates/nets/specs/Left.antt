-- The nets of a sheet's terminals that are still to come, those of the top before those of the bottom.
-- Assumes nothing.
use Rattle.std.specs.Prelude.{ℕ, List, ◌++◌}
use Rattle.channel.specs.Sheet.{nets}
use Rattle.format.specs.Left.{terminals_left}
use Rattle.nets.specs.declared.Nets.{Nets}

abbrev pub nets_to_come : Nets → List ℕ
nets_to_come n = nets (terminals_left n.top ++ terminals_left n.bottom)
