-- `Modules::next` meets its contract: the module read is the first, and one less is to come.
-- Assumes nothing.
use Rattle.std.proofs.Common.{ap, ◌<◌, ◌≤◌, List, length, rules}
use Rattle.modules.specs.Modules.{Module}
use Rattle.modules.proofs.Lists.{modules_end}
use Rattle.modules.proofs.Cut.{modules_next}
use Rattle.modules.proofs.ModulesIterator.next.Goals as goal

pub returns-then-is_empty-clause-steps : goal.returns-then-is_empty-clause-steps
returns-then-is_empty-clause-steps c =
    let b = c.args.self.now.left.now in
    let none : length b ≤ 0 = search rules in
    (modules_end b 0 none, modules_end b 0 none)

pub returns-clause-steps : goal.returns-clause-steps
returns-clause-steps c =
    let b = c.args.self.now.left.now in
    let some : 0 < length b = search rules in
    let next = modules_next b some in
    search rules

pub returns-clause-goes : goal.returns-clause-goes
returns-clause-goes c =
    let b = c.args.self.now.left.now in
    let some : 0 < length b = search rules in
    let fewer = ap (λ (ms : List Module). length ms) (modules_next b some) in
    search rules
