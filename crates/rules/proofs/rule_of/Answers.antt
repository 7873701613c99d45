-- `rules::rule_of` meets its contract: the two words of the terminal's record are its rule.
-- Assumes nothing.
use Rattle.rules.proofs.Terminals.{first_rule, later_rule}
use Rattle.rules.proofs.rule_of.Goals as goal

pub returns-then-place-eq1 : goal.returns-then-place-eq1
returns-then-place-eq1 c = λ ts is. first_rule ts c.args.place c.args.terminal c.requires.0 is c.if-place-eq1.true

pub returns : goal.returns
returns c = λ ts is. later_rule ts c.args.place c.args.terminal c.requires.0 is c.if-place-eq1.false c.distances.result c.distances.ensures
