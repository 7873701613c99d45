-- `places::pin_at` meets its contract: the two tests of its own side and the ends on the other make the numbers.
-- Assumes nothing.
use Rattle.std.proofs.Common.{◌≡◌, ◌∙◌, ◌+◌, ◌-◌, cond, arith, length, drop}
use Rattle.std.proofs.lemmas.List.{take_all, length-drop}
use Rattle.places.proofs.Numbers.{numbers}
use Rattle.places.proofs.pin_at.Goals as goal
use Rattle.places.proofs.pin_at.Goals.{then-before, else-before, then-behind, else-behind}

pub returns : goal.returns
returns c =
    let a = c.args in
    let ends = c.ends_of-ends.result in
    let opens : c.if-before.result ≡ cond c.occurs-before.result 0 ends.first =
    elim c.if-before.branch [ then-before w ↦ rw (w.result-is, w.if-before.true) | else-before w ↦ rw (w.result-is, w.if-before.false) ] in
    let closes : c.if-behind.result ≡ cond c.occurs-behind.result 255 ends.last =
    elim c.if-behind.branch [ then-behind w ↦ rw (w.result-is, w.if-behind.true) | else-behind w ↦ rw (w.result-is, w.if-behind.false) ] in
    numbers _ a.own.now a.other.now a.i ends.first ends.last _ _ _ _ _ c.ends_of-ends.ensures
    c.occurs-before.ensures
    (c.occurs-behind.ensures ∙ rw (take_all (length a.own.now - (a.i + 1)) (drop (a.i + 1) a.own.now) (omega (arith, length-drop (a.i + 1) a.own.now))))
    opens
    closes
    c.is_straight.ensures
