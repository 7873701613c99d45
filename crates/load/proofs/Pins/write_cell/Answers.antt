-- `Pins::write_cell` meets its contract: three loads of the cut, put in, are its cell.
-- Assumes nothing.
use Rattle.std.proofs.Common.{arith}
use Rattle.load.proofs.Table.{write_cell}
use Rattle.load.proofs.Pins.write_cell.Goals as goal

pub returns : goal.returns
returns c =
    let a = c.args in
    let s = a.self in
    write_cell s.mark s.tops.now s.bottoms.now a.i a.j (omega (arith, c.requires.1, s.listed.few.1)) a.loads.now _ a.l c.requires.2
    (omega (arith, c.requires.0, c.requires.3)) c.put_loads.ensures
