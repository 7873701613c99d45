-- `chains::chain` meets its contract: what the list's check refuses, then the answer of an assignment.
-- Assumes nothing.
use Rattle.std.proofs.Common.{rules, refl, Ok, Err, sym, ap, ◌∙◌}
use Rattle.chains.specs.Chains.{chain_nets}
use Rattle.list.proofs.Laws.{given, refused}
use Rattle.chains.proofs.Sheets.{list_refused, few_tops, nets_given}
use Rattle.chains.proofs.chain.Goals as goal

pub returns-in_err-listed : goal.returns-in_err-listed
returns-in_err-listed c =
    let e = list_refused _ _ _ (refused c.args.s c.args.columns _ (rw c.in_err-listed.was at c.assignment.ensures)) in
    search rules

pub list_constraints-requires : goal.list_constraints-requires
list_constraints-requires c = few_tops _ _ _ (given c.args.s c.args.columns _ (rw c.in_ok-listed.was at c.assignment.ensures))

pub returns-in_err-nets : goal.returns-in_err-nets
returns-in_err-nets c =
    let came = given c.args.s c.args.columns _ (rw c.in_ok-listed.was at c.assignment.ensures) in
    let refused =
    nets_given c.args.s c.args.columns _ came (Err c.in_err-nets.field-0.0)
    (sym c.in_err-nets.was ∙ c.chain_nets.ensures ∙ ap chain_nets (c.deref.ensures.0 ∙ c.list_constraints.ensures)) _ refl in
    search rules

pub returns : goal.returns
returns c =
    let came = given c.args.s c.args.columns _ (rw c.in_ok-listed.was at c.assignment.ensures) in
    let answer =
    nets_given c.args.s c.args.columns _ came (Ok c.in_ok-nets.nets)
    (sym c.in_ok-nets.was ∙ c.chain_nets.ensures ∙ ap chain_nets (c.deref.ensures.0 ∙ c.list_constraints.ensures)) _
    c.list_density.ensures in
    search rules
