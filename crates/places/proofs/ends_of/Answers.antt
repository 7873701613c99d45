use Rattle.std.proofs.Common.{true, false, arith, eq-eqb, ne_eqb}
use Rattle.places.proofs.Sides.{seen_more}
use Rattle.places.proofs.ends_of.Goals as goal
use Rattle.places.proofs.ends_of.Goals.{then-other-net, else-other-net}

pub loop-i-preserved : goal.loop-i-preserved
loop-i-preserved c =
    let a = c.args in
    let l = c.loop-i in
    elim c.if-other-net.branch [
      | then-other-net w ↦
          rw (c.min-first.ensures, c.max-last.ensures, w.low-is)
          (seen_more a.net a.side.now l.i l.first l.last true l.invariant (omega arith) (eq-eqb _ a.net w.if-other-net.true))
      | else-other-net w ↦
          rw (c.min-first.ensures, c.max-last.ensures, w.low-is)
          (seen_more a.net a.side.now l.i l.first l.last false l.invariant (omega arith) (ne_eqb _ a.net w.if-other-net.false))
    ]
