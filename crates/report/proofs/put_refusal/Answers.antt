-- The name and number, then the line's end.
use Rattle.text.proofs.Writes.{behind}
use Rattle.report.proofs.put_refusal.Goals as goal

pub returns-clause-wrote : goal.returns-clause-wrote
returns-clause-wrote c = behind c.put_field.ensures.wrote c.put_byte.ensures
