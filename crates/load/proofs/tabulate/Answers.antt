-- `load::tabulate` meets its contract: the nets that come in at the left are those cut left of all pins.
-- Assumes nothing.
use Rattle.std.proofs.Common.{◌-◌, arith, length, drop}
use Rattle.std.proofs.lemmas.List.{take_all, take-append-drop, length-drop, length-take}
use Rattle.cut.proofs.Steps.{cut_first}
use Rattle.load.proofs.tabulate.Goals as goal

pub write_table-requires : goal.write_table-requires
write_table-requires c =
    let ns = c.args.nets.now in
    let p = c.args.p in (
      rw (take_all (length ns - p) (drop p ns) (omega (arith, length-drop p ns)), cut_first, take-append-drop) c.first_cut.ensures,
      rw (length-take p ns) (omega (arith, c.requires)),
    )
