use Rattle.std.proofs.Common.{◌≡◌, ◌+◌, ◌-◌, length, take, drop, arith, length-take-le, length-drop}
use Rattle.density.proofs.Sums.{added_part, added_all}
use Rattle.density.proofs.add_span.Goals as goal

pub returns : goal.returns
returns c =
    let a = c.args in
    let l = c.loop-count in
    let all : a.from + (a.to + 1 - a.from) ≡ a.to + 1 = omega arith in
    let n : length (take (a.to + 1 - a.from) (drop a.from a.counts.now)) ≡ a.to + 1 - a.from = length-take-le _ _ (rw length-drop (omega arith)) in
    let last : l.count-index ≡ a.to + 1 - a.from = omega (arith, n) in
    added_all a.from a.to a.counts.now _
    (rw all at (added_part a.from (a.to + 1 - a.from) a.counts.now l.count-items (omega arith) (omega (arith, n)) (rw last at l.invariant)))
