-- The text stands at the start of the buffer.
use Rattle.std.proofs.Common.{rules, refl, arith}
use Rattle.report.proofs.Prints.{at_start}
use Rattle.report.proofs.print.Goals as goal

pub returns : goal.returns
returns c =
    let text = c.put_text.ensures in
    let prints = at_start c.args.input.now refl (omega (arith, text.upper_bound)) text.wrote.wrote in
    search rules
