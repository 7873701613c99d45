use Rattle.std.proofs.Common.{◌+◌, ◌-◌, ◌<◌, ◌≡◌, false, arith, get_or}
use Rattle.std.proofs.lemmas.List.{get_or-replicate}
use Rattle.table.specs.Planes.{Filled, base_of}
use Rattle.table.specs.Empty.{Empty}
use Rattle.table.proofs.Planes.{filled_none, filled_then, plane_next, plane_in_row, row_next}
use Rattle.table.specs.United.{Paired, Zeros}
use Rattle.table.proofs.Empty.{flags_none, flags_more, none_told, united_empty}
use Rattle.table.proofs.plane.fill_row.Goals as goal
use Rattle.table.proofs.plane.fill_row.Goals.{then-corner, else-corner}

pub clear_plane-requires : goal.clear_plane-requires
clear_plane-requires c =
    let a = c.args in
    let f = a.filling in
    let l = c.loop-j in (
      c.requires.0,
      c.requires.1,
      c.loop-j-test.true,
      omega (arith, l.auto.work, c.requires.2, plane_in_row f.grid a.i c.requires.0 l.j c.loop-j-test.true, row_next f.grid a.i),
      l.invariant.0.cells,
      none_told f.rules.now.words f.loads.now f.bound f.grid a.i l.j l.flags l.before l.corner c.loop-j-test.true l.invariant.3
          c.if-corner.false.0 c.if-corner.false.1 c.if-corner.false.2,
    )

pub loop-j-init : goal.loop-j-init
loop-j-init c =
    let a = c.args in
    let f = a.filling in (
      filled_none f.rules.now.words f.loads.now f.bound f.grid a.i 0 _ a.work.now c.requires.3,
      λ p. absurd (omega arith),
      λ e x h. get_or-replicate 64 x 0 0 (omega (arith, c.requires.0.rows.1)),
      flags_none f.rules.now.words f.loads.now f.bound f.grid a.i a.flags.now c.told-flags c.requires.5,
    )

pub loop-j-preserved : goal.loop-j-preserved
loop-j-preserved c =
    let a = c.args in
    let f = a.filling in
    let l = c.loop-j in
    let rules = f.rules.now.words in
    let loads = f.loads.now in
    let done : Filled rules loads f.bound f.grid a.i (l.j + 1) (base_of f.grid a.i (l.j + 1)) l.work c.if-corner.work
    × (c.if-corner.before ≡ false → Empty rules loads f.bound f.grid a.i l.j)
    × (0 < l.j + 1 → l.j + 1 < f.grid.across → Paired rules loads f.bound f.grid a.i (l.j + 1) c.if-corner.diagonal)
    × (get_or l.flags l.j false ≡ false → Zeros f.grid c.if-corner.diagonal) =
    elim c.if-corner.branch [
      | then-corner w ↦ rw (w.work-is, w.before-is, w.diagonal-is) (w.fill_plane-before.ensures.0, w.fill_plane-before.ensures.1, λ p. w.unite_above.ensures.1, w.unite_above.ensures.2)
      | else-corner w ↦
          let told = w.if-corner.false in
          let zeros = l.invariant.2 told.2 in
          let same : l.j + 1 - 1 ≡ l.j = omega arith in
          rw (w.work-is, w.before-is, w.diagonal-is) (
            w.clear_plane.ensures,
            λ e. none_told rules loads f.bound f.grid a.i l.j l.flags l.before l.corner c.loop-j-test.true l.invariant.3 told.0 told.1 told.2,
            λ p more e. rw same (united_empty rules loads f.bound f.grid a.i l.j l.diagonal c.requires.0.rows.1 (λ q. l.invariant.3.ahead q l.j (omega arith) c.loop-j-test.true told.0) zeros),
            λ e. zeros,
          )
    ] in (
      filled_then l.invariant.0 done.0 (omega (arith, plane_next f.grid a.i l.j)),
      done.2,
      done.3,
      flags_more rules loads f.bound f.grid a.i l.j l.flags l.before l.corner c.if-corner.before (omega (arith, l.invariant.3.kept, c.requires.0.across)) c.loop-j-test.true done.1 l.invariant.3,
    )
