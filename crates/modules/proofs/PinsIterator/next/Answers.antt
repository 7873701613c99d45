-- `Pins::next` meets its contract: the pin read is the first, and one less is to come.
-- Assumes nothing.
use Rattle.std.proofs.Common.{ap, List, length, arith, rules}
use Rattle.modules.specs.declared.Pin.{Pin}
use Rattle.modules.proofs.Cut.{pins_next}
use Rattle.modules.proofs.PinsIterator.next.Goals as goal

pub returns-clause-steps : goal.returns-clause-steps
returns-clause-steps c =
    let next = pins_next c.args.self.now.left.now (omega (arith, c.in_ok-pin.ensures.cases.2)) in
    search rules

pub returns-clause-goes : goal.returns-clause-goes
returns-clause-goes c =
    let next = pins_next c.args.self.now.left.now (omega (arith, c.in_ok-pin.ensures.cases.2)) in
    let fewer = ap (λ (ps : List Pin). length ps) next in
    search rules
