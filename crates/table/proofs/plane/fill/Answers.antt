use Rattle.std.proofs.Common.{ℕ, ◌+◌, ◌-◌, ◌≡◌, arith}
use Rattle.table.proofs.Planes.{filled_then, row_next}
use Rattle.table.proofs.plane.fill.Goals as goal

pub loop-i-preserved : goal.loop-i-preserved
loop-i-preserved c = (
  filled_then c.loop-i.invariant.0 c.fill_row.ensures.0 (omega (arith, row_next c.args.filling.grid c.loop-i.i)),
  λ p. rw (same c.loop-i.i) c.fill_row.ensures.1,
)
  where
    same : (i : ℕ) → i + 1 - 1 ≡ i
    same i = omega arith
