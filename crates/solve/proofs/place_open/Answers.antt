-- `solve::place_open` meets its contract: the loads are those of the sections.
-- Assumes nothing.
use Rattle.std.proofs.Common.{arith}
use Rattle.solve.proofs.Finding.{counts, place_asked, given, enough, placed_worked}
use Rattle.solve.proofs.place_open.Goals as goal

pub invariant_of-order : goal.invariant_of-order
invariant_of-order c =
    let a = c.args in
    record {
      counts = counts a.sections _ _ c.requires.0;
      loaded = omega (arith, c.requires.2, c.read_loads.ensures.size);
      enough = enough a.sections _ _ c.requires.0 _ c.requires.1 _ _ c.read_loads.ensures;
    }

pub place-requires : goal.place-requires
place-requires c =
    let a = c.args in
    (given a.sections _ _ c.requires.0 _ c.requires.1 _ _ c.read_loads.ensures, place_asked a.sections _ _ c.requires.0)

pub returns : goal.returns
returns c =
    let a = c.args in placed_worked a.sections _ _ c.requires.0 _ c.requires.1 _ _ c.read_loads.ensures _ _ _ _ _ c.place.ensures
