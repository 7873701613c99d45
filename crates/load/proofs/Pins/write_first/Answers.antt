use Rattle.std.proofs.Common.{◌+◌, rules, arith}
use Rattle.load.proofs.Cuts.{most, room_bottom, next_bottom, first_loads}
use Rattle.load.proofs.Table.{cells_more}
use Rattle.load.proofs.Pins.write_first.Goals as goal

pub next_cut-cut-requires : goal.next_cut-cut-requires
next_cut-cut-requires c =
    let l = c.loop-j in
    room_bottom c.args.self.listed 0 l.j l.cut _ (omega arith) c.loop-j-test.true l.invariant.0

pub lone_load-bottom-requires : goal.lone_load-bottom-requires
lone_load-bottom-requires c =
    let l = c.loop-j in
    let s = c.args.self in
    most s.listed 0 (l.j + 1) _ (next_bottom s.listed 0 l.j l.cut _ (omega arith) c.loop-j-test.true l.invariant.0 _ c.next_cut-cut.ensures)

pub write_cell-requires-in-loop-j : goal.write_cell-requires-in-loop-j
write_cell-requires-in-loop-j c =
    let l = c.loop-j in
    let s = c.args.self in
    let next = next_bottom s.listed 0 l.j l.cut _ (omega arith) c.loop-j-test.true l.invariant.0 _ c.next_cut-cut.ensures in (
      omega arith,
      omega (arith, s.listed.bottom.size),
      first_loads s.listed l.j c.next_cut-cut.result _ _ (omega (arith, s.listed.bottom.size)) next c.lone_load-bottom.ensures,
      omega (arith, c.requires.1, c.write_cell.ensures.size, l.invariant.1.size),
    )

pub loop-j-preserved : goal.loop-j-preserved
loop-j-preserved c =
    let l = c.loop-j in
    let s = c.args.self in (
      next_bottom s.listed 0 l.j l.cut _ (omega arith) c.loop-j-test.true l.invariant.0 _ c.next_cut-cut.ensures,
      cells_more s.mark s.tops.now s.bottoms.now _ _ _ 0 l.j (omega (arith, s.listed.few.1, s.listed.bottom.size)) l.invariant.1
          c.write_cell-in-loop-j.ensures,
    )
