-- `measure::measure` meets its contract: what the list's check refuses, then the density of an assignment.
-- Assumes nothing.
use Rattle.std.proofs.Common.{rules}
use Rattle.measure.proofs.Measures.{list_refused, density_counted}
use Rattle.measure.proofs.measure.Goals as goal

pub returns-in_err-listed : goal.returns-in_err-listed
returns-in_err-listed c =
    let e = list_refused c.args.s c.args.columns _ (rw c.in_err-listed.was at c.assignment.ensures) in
    search rules

pub returns : goal.returns
returns c = density_counted c.args.s c.args.columns _ (rw c.in_ok-listed.was at c.assignment.ensures) _ c.list_density.ensures
