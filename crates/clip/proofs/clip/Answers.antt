-- `clip::clip` meets its contract: the pass from the left and then the one from the right.
-- Assumes nothing.
use Rattle.std.proofs.Common.{arith, refl, ◌∙◌, eqb, ne_eqb}
use Rattle.clip.proofs.Passes.{left_none, right_none, some_number}
use Rattle.clip.proofs.clip.Goals as goal

pub returns-then-n-eq0-clause-sets : goal.returns-then-n-eq0-clause-sets
returns-then-n-eq0-clause-sets c =
    record {
      left = c.args.rules.now.words;
      from_left = left_none _ c.args.n _ (omega arith);
      from_right = right_none _ 1 c.args.n _ (omega arith);
    }

pub returns-clause-is_open : goal.returns-clause-is_open
returns-clause-is_open c =
    some_number c.allowed.result c.allowed.type_inv (eqb c.allowed.result 0) refl
    ∙ rw (ne_eqb c.args.n 0 c.if-n-eq0.false, c.allowed.ensures)
