use Rattle.std.proofs.Common.{◌≤◌, length, Some, None, ◌∙◌, sym, arith}
use Rattle.relation.specs.Relation.{leads_in}
use Rattle.relation.proofs.Longest.{longest_upper}
use Rattle.chains.proofs.Found.{none-listed, nets-found, lowest-found}
use Rattle.chains.proofs.chain_nets.Goals as goal

pub returns-then-n-eq0 : goal.returns-then-n-eq0
returns-then-n-eq0 c = none-listed c.args.constraints.now c.if-n-eq0.true

pub returns-then-steps-n : goal.returns-then-steps-n
returns-then-steps-n c =
    nets-found c.args.constraints.now c.if-n-eq0.false c.put_words.new.words c.put_words.ensures _ c.longest_walk-steps.ensures
    c.if-steps-n.true

steps_few : (c : goal.In-None) → c.longest_walk-steps.result ≤ 64
steps_few c =
    let n = length c.args.constraints.now in
    omega (arith, c.longest_walk-steps.ensures, longest_upper (leads_in c.put_words.new.words) n n, c.requires)

pub overflow_cast-result-in-None : goal.overflow_cast-result-in-None
overflow_cast-result-in-None c = omega (arith, steps_few c)

pub overflow_add-result-in-None : goal.overflow_add-result-in-None
overflow_add-result-in-None c = omega (arith, steps_few c)

pub returns-in-None : goal.returns-in-None
returns-in-None c =
    lowest-found c.args.constraints.now c.if-n-eq0.false c.put_words.new.words c.put_words.ensures _ c.longest_walk-steps.ensures
    c.requires c.close.new.words c.close.ensures None (sym c.in-None.is ∙ c.lowest_net.ensures)

pub returns-in-Some : goal.returns-in-Some
returns-in-Some c =
    lowest-found c.args.constraints.now c.if-n-eq0.false c.put_words.new.words c.put_words.ensures _ c.longest_walk-steps.ensures
    c.requires c.close.new.words c.close.ensures (Some c.in-Some.net) (sym c.in-Some.is ∙ c.lowest_net.ensures)
