use Rattle.std.proofs.Common.{arith}
use Rattle.load.proofs.Table.{rows_more}
use Rattle.load.proofs.Cuts.{room_top, next_top}
use Rattle.load.proofs.Pins.write_table.Goals as goal

pub next_cut-cut-requires : goal.next_cut-cut-requires
next_cut-cut-requires c =
    let l = c.loop-i in
    room_top c.args.self.listed l.i l.cut _ c.loop-i-test.true l.invariant.0

pub write_row-requires : goal.write_row-requires
write_row-requires c =
    let l = c.loop-i in
    let s = c.args.self in (
      omega (arith, s.listed.top.size),
      next_top s.listed l.i l.cut _ c.loop-i-test.true l.invariant.0 _ c.next_cut-cut.ensures,
      omega (arith, c.requires.1, c.write_first.ensures.size, l.invariant.1.size),
    )

pub loop-i-preserved : goal.loop-i-preserved
loop-i-preserved c =
    let l = c.loop-i in
    let s = c.args.self in (
      next_top s.listed l.i l.cut _ c.loop-i-test.true l.invariant.0 _ c.next_cut-cut.ensures,
      rows_more s.mark s.tops.now s.bottoms.now _ _ _ l.i s.listed.few.1 l.invariant.1 c.write_row.ensures,
    )
