-- `solve::place` meets its contract: by order alone where no distance binds, and else by the table.
-- Assumes nothing.
use Rattle.std.proofs.Common.{◌∙◌, sym}
use Rattle.std.proofs.Math.Bool.{and-eq-true_iff}
use Rattle.solve.proofs.Solving.{order_placed, plan_asked, table_asked, table_placed, feasible_most_in}
use Rattle.solve.proofs.place.Goals as goal

pub returns-then-none_binds : goal.returns-then-none_binds
returns-then-none_binds c =
    let (tops, bottoms) = (and-eq-true_iff _ _).0 c.if-none_binds.true in
    order_placed _ _ _ _ _ c.requires.0 c.args.columns.now c.args.work.now c.requires.1 _ _ _ c.least_bound-bound.ensures
    (sym c.none_binds.ensures ∙ tops) (sym c.none_binds-2.ensures ∙ bottoms) c.walk.ensures

pub make_plan-plan-requires : goal.make_plan-plan-requires
make_plan-plan-requires c = plan_asked _ _ _ _ _ c.requires.0 c.args.columns.now c.args.work.now c.requires.1

pub invariant_of-pass : goal.invariant_of-pass
invariant_of-pass c =
    record {
      loaded = rw c.make_plan-plan.ensures c.args.order.loaded;
      enough = rw c.make_plan-plan.ensures (feasible_most_in _ _ _ _ _ _ c.requires.0.is);
    }

pub place-requires : goal.place-requires
place-requires c =
    rw c.make_plan-plan.ensures
    (table_asked _ _ _ _ _ c.requires.0 c.args.columns.now c.args.work.now c.requires.1 _ _ c.least_bound-bound.ensures)

pub returns : goal.returns
returns c =
    table_placed _ _ _ _ _ c.requires.0 c.args.columns.now c.args.work.now c.requires.1 _ _ _ _ _ c.least_bound-bound.ensures
    (rw c.make_plan-plan.ensures at c.place.ensures)
