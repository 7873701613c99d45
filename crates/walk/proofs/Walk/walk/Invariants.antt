-- `Walk::walk` meets its contract. The loop's invariant: what is still to be walked leads to the same columns. The measure is how
-- many columns are left.
-- Assumes nothing.
use Rattle.std.proofs.Common.{ℕ, ◌≡◌}
use Rattle.letters.specs.declared.Progress.{Progress}
use Rattle.letters.specs.Walking.{AsksStep, walk_columns, whole_walk}
use Rattle.walk.specs.Walk.{choice_in}
use Rattle.walk.proofs.Walk.walk.Given as goal

abbrev pub invariant-loop-m : goal.invariant-loop-m
invariant-loop-m l =
    let v = l.self in
    let choose : Progress → ℕ = choice_in v.work.now v.rules.now.words v.grid v.p v.q in
    AsksStep v.p v.q l.m
    × (walk_columns choose v.p l.m.c l.m l.columns ≡ whole_walk choose l.l v.p v.q l.initial.columns)

abbrev pub decreases-loop-m : goal.decreases-loop-m
decreases-loop-m l = l.m.c
