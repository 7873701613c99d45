-- `OrderWalk::walk` meets its contract. The loop's invariant: what is still to be walked leads to the same columns. The measure is how
-- many columns are left.
-- Assumes nothing.
use Rattle.std.proofs.Common.{ℕ, ◌≡◌}
use Rattle.letters.specs.declared.Progress.{Progress}
use Rattle.letters.specs.Walking.{AsksStep, walk_columns, whole_walk}
use Rattle.order_walk.specs.OrderWalk.{order_choice_in}
use Rattle.order_walk.proofs.OrderWalk.walk.Given as goal

abbrev pub invariant-loop-m : goal.invariant-loop-m
invariant-loop-m l =
    let o = l.self.order in
    let choose : Progress → ℕ = order_choice_in o.rules.now.words o.loads.now o.l l.self.bound in
    AsksStep o.p o.q l.m
    × (walk_columns choose o.p l.m.c l.m l.columns ≡ whole_walk choose o.l o.p o.q l.initial.columns)

abbrev pub decreases-loop-m : goal.decreases-loop-m
decreases-loop-m l = l.m.c
