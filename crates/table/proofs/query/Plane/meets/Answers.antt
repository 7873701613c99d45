use Rattle.std.proofs.Common.{ℕ, suc, ◌+◌, ◌-◌, ◌*◌, ◌≡◌, ◌∙◌, sym, ap, ◌&&◌, arith, leb}
use Rattle.bits.specs.Bits.{bit_of, in_word}
use Rattle.cells.specs.Cells.{word_at}
use Rattle.table.specs.Planes.{held_at, meeting}
use Rattle.table.proofs.Unions.{none_before, row_misses, row_skipped, row_meets_lem, none-meets}
use Rattle.table.proofs.query.Plane.meets.Goals as goal
use Rattle.table.proofs.query.Plane.meets.Goals.{then-near+else-both-ne0, else-near}

pub loop-x-init : goal.loop-x-init
loop-x-init c =
    let a = c.args in
    let s = a.self in
    let n = a.next in
    none_before a.low (λ (m : ℕ). bit_of n.by (n.at - m))
    (λ (m y : ℕ). held_at s.work.now s.grid s.i s.j m y && bit_of a.mask y)

pub returns-then-both-ne0 : goal.returns-then-both-ne0
unfolding meeting
returns-then-both-ne0 c =
    let a = c.args in
    let s = a.self in
    let n = a.next in
    let l = c.loop-x in
    row_meets_lem a.low a.high l.x (λ (m : ℕ). bit_of n.by (n.at - m))
    (λ (m y : ℕ). held_at s.work.now s.grid s.i s.j m y && bit_of a.mask y) (omega arith) (omega arith)
    (sym c.near.ensures ∙ c.if-near.true)
    c.both.result (omega (arith, c.both.type_inv)) c.if-both-ne0.true
    (λ y. c.both.ensures y ∙ ap (λ (w : ℕ). bit_of w y && bit_of a.mask y) (c.read_word.ensures ∙ ap (λ (b : ℕ). word_at s.work.now (b + 4 * l.x)) c.start-base.ensures))

pub loop-x-preserved : goal.loop-x-preserved
loop-x-preserved c =
    let a = c.args in
    let s = a.self in
    let n = a.next in
    let l = c.loop-x in
    elim c.if-near.branch [
      | then-near+else-both-ne0 w ↦ row_misses a.low l.x (λ (m : ℕ). bit_of n.by (n.at - m))
          (λ (m y : ℕ). held_at s.work.now s.grid s.i s.j m y && bit_of a.mask y) w.both.result w.if-both-ne0.false
          (λ y. w.both.ensures y ∙ ap (λ (v : ℕ). bit_of v y && bit_of a.mask y) (w.read_word.ensures ∙ ap (λ (b : ℕ). word_at s.work.now (b + 4 * l.x)) c.start-base.ensures)) l.invariant
      | else-near w ↦ row_skipped a.low l.x (λ (m : ℕ). bit_of n.by (n.at - m))
          (λ (m y : ℕ). held_at s.work.now s.grid s.i s.j m y && bit_of a.mask y) (sym c.near.ensures ∙ w.if-near.false)
          l.invariant
    ]

pub returns : goal.returns
unfolding meeting
returns c =
    let a = c.args in
    let s = a.self in
    let n = a.next in
    let l = c.loop-x in
    let end : l.x ≡ suc a.high = omega arith in
    none-meets (λ (m : ℕ). leb a.low m &&
    (bit_of n.by (n.at - m) && in_word (λ (y : ℕ). held_at s.work.now s.grid s.i s.j m y && bit_of a.mask y)))
    l.x (suc a.high) end
    l.invariant
