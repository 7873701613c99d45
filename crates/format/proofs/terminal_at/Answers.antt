-- `format::terminal_at` meets its contract: the test decides whether there is such a terminal.
-- Assumes nothing.
use Rattle.std.proofs.Common.{ap, ◌∙◌}
use Rattle.terminal.specs.Terminal.{record_of}
use Rattle.format.proofs.Records.{zero_record, terminal_there, terminal_none}
use Rattle.format.proofs.terminal_at.Goals as goal

pub returns-then-i-part : goal.returns-then-i-part
returns-then-i-part c = c.read_record.ensures ∙ ap record_of (terminal_there _ _ c.if-i-part.true)

pub returns-else-i-part : goal.returns-else-i-part
returns-else-i-part c = zero_record c.default.result c.default.ensures ∙ ap record_of (terminal_none _ _ c.if-i-part.false)
