-- A terminal as the code has it, and back (document 01, "The sheet").
-- Assumes nothing.
use Rattle.channel.specs.Sheet.{Terminal}
use Rattle.terminal.specs.declared.Record.{Record}

abbrev pub record_of : Terminal → Record
record_of t = record { net = t.net; least = t.least; greatest = t.greatest; allowed = t.allowed }

abbrev pub terminal_of : Record → Terminal
terminal_of r = record { net = r.net; least = r.least; greatest = r.greatest; allowed = r.allowed }
