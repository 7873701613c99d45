-- `chains::put_words` meets its contract. The loop's invariant: the words of the constraints passed.
-- Assumes nothing.
use Rattle.std.proofs.Common.{ℕ, ◌≡◌, ◌<◌, length}
use Rattle.relation.specs.Relation.{leads_in}
use Rattle.chains.specs.Chains.{follows}
use Rattle.chains.proofs.put_words.Given as goal

abbrev pub invariant-loop-j : goal.invariant-loop-j
invariant-loop-j l =
    (i j : ℕ) → i < length l.constraints → j < l.j → leads_in l.words i j ≡ follows l.constraints i j
