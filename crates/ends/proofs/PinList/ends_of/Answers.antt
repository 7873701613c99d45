use Rattle.std.proofs.Common.{ℕ, List, min, max, sym, ◌∙◌, ap, arith}
use Rattle.kind.specs.Kinds.{left_start, right_start}
use Rattle.channel.specs.Density.{Pin}
use Rattle.channel.specs.Spans.{end_from, leftmost, rightmost}
use Rattle.ends.specs.Pins.{pins_in}
use Rattle.ends.proofs.PinList.ends_of.Goals as goal

pub loop-i-init : goal.loop-i-init
unfolding leftmost rightmost
loop-i-init c =
    let a = c.args in
    let ps : List Pin = pins_in a.self in
    let kind = c.from-kind.ensures in
    let left = c.left_start-left.ensures ∙ ap left_start kind in
    let right = c.right_start-right.ensures ∙ ap right_start kind in (
      omega arith,
      ap (λ (k : ℕ). end_from min k a.net ps) (sym left),
      ap (λ (k : ℕ). end_from max k a.net ps) (sym right),
    )
