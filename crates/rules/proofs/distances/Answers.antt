-- `rules::distances` meets its contract: bit e is the distance e + 1.
-- Assumes nothing.
use Rattle.std.proofs.Common.{◌∙◌, ap₂, Bool, ◌&&◌, arith}
use Rattle.std.proofs.lemmas.Bool.Decides.{nat_tests}
use Rattle.rules.proofs.distances.Goals as goal

pub returns : goal.returns
returns c = λ e h.
    c.both.ensures e ∙ ap₂ (λ (a b : Bool). a && b) (c.from.ensures e h) (c.below.ensures e h) ∙ grind (arith, nat_tests)
