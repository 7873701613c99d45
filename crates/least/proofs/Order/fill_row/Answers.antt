-- `Order::fill_row` meets its contract: each turn puts one cell in.
-- Assumes nothing.
use Rattle.std.proofs.Common.{arith}
use Rattle.least.proofs.Table.{in_cells, written_more}
use Rattle.least.proofs.Order.fill_row.Goals as goal

pub loop-j-preserved : goal.loop-j-preserved
loop-j-preserved c =
    let s = c.args.self in
    let o = c.loop-j in
    written_more s.rules.now.words s.loads.now s.l c.args.bound s.q c.args.work.now c.args.i o.j o.work _ (omega arith)
    (omega (arith, in_cells s.p s.q c.args.i o.j c.requires.0 (omega arith), o.invariant.kept))
    c.least-least.ensures o.invariant
