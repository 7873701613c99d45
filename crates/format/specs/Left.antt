-- What is still to come of a section's terminals, as its iterator gives their records.
-- Assumes nothing.
use Rattle.std.specs.Prelude.{List}
use Rattle.channel.specs.Sheet.{Terminal}
use Rattle.format.specs.Parts.{terminals_in}
use Rattle.format.specs.declared.Terminals.{Terminals}

abbrev pub terminals_left : Terminals → List Terminal
terminals_left t = terminals_in t.left.now
