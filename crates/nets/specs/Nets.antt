-- The nets of a section's terminals.
-- Assumes nothing.
use Rattle.std.specs.Prelude.{ℕ, List}
use Rattle.channel.specs.Sheet.{nets}
use Rattle.format.specs.Parts.{terminals_in}

-- the nets of a section's terminals
abbrev pub nets_in : List ℕ → List ℕ
nets_in part = nets (terminals_in part)
