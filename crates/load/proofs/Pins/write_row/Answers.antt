use Rattle.std.proofs.Common.{◌+◌, rules, arith}
use Rattle.load.proofs.Cuts.{most, room_bottom, next_bottom, row_loads, cell_loads}
use Rattle.load.proofs.Table.{cells_more}
use Rattle.load.proofs.Pins.write_row.Goals as goal

pub lone_load-requires : goal.lone_load-requires
lone_load-requires c = most c.args.self.listed (c.args.i + 1) 0 _ c.requires.1

pub write_cell-requires : goal.write_cell-requires
write_cell-requires c =
    let a = c.args in
    (omega arith, omega arith, row_loads a.self.listed a.i a.first _ _ c.requires.0 c.requires.1 c.lone_load.ensures, c.requires.2)

pub next_cut-cut-requires : goal.next_cut-cut-requires
next_cut-cut-requires c =
    let l = c.loop-j in
    room_bottom c.args.self.listed (c.args.i + 1) l.j l.cut _ (omega arith) c.loop-j-test.true l.invariant.0

pub loads_of-l-requires : goal.loads_of-l-requires
loads_of-l-requires c =
    let l = c.loop-j in
    let s = c.args.self in (
      most s.listed (c.args.i + 1) (l.j + 1) _
          (next_bottom s.listed (c.args.i + 1) l.j l.cut _ (omega arith) c.loop-j-test.true l.invariant.0 _ c.next_cut-cut.ensures),
      omega arith,
      omega arith,
    )

pub write_cell-requires-in-loop-j : goal.write_cell-requires-in-loop-j
write_cell-requires-in-loop-j c =
    let l = c.loop-j in
    let i = c.args.i in
    let s = c.args.self in
    let loads = c.loads_of-l.ensures in
    let next = next_bottom s.listed (i + 1) l.j l.cut _ (omega arith) c.loop-j-test.true l.invariant.0 _ c.next_cut-cut.ensures in (
      omega arith,
      omega (arith, s.listed.bottom.size),
      cell_loads s.listed i l.j c.next_cut-cut.result _ _ _ c.requires.0 (omega (arith, s.listed.bottom.size)) next loads.top loads.bottom loads.both,
      omega (arith, c.requires.2, c.write_cell.ensures.size, l.invariant.1.size),
    )

pub loop-j-preserved : goal.loop-j-preserved
loop-j-preserved c =
    let l = c.loop-j in
    let s = c.args.self in (
      next_bottom s.listed (c.args.i + 1) l.j l.cut _ (omega arith) c.loop-j-test.true l.invariant.0 _ c.next_cut-cut.ensures,
      cells_more s.mark s.tops.now s.bottoms.now _ _ _ (c.args.i + 1) l.j (omega (arith, s.listed.few.1, s.listed.bottom.size)) l.invariant.1
          c.write_cell-in-loop-j.ensures,
    )
