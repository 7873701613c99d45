-- `binding::out_of_range` meets its contract: the two words differ exactly where some distance that the ends leave is not in the range.
-- Assumes nothing.
use Rattle.std.proofs.Common.{◌+◌, ◌-◌, ◌≡◌, ap, ap₂, ◌∙◌, ℕ, Bool, ◌&&◌, arith, leb, ltb}
use Rattle.binding.specs.Binding.{low_of, end_of}
use Rattle.binding.proofs.Binding.{window_says}
use Rattle.binding.proofs.out_of_range.Goals as goal

pub returns : goal.returns
returns c =
    let a = c.args in
    let start : c.saturating_sub-start.result ≡ low_of a.next + 1 - end_of a.set =
    omega (arith, c.saturating_sub-start.ensures, c.end.ensures) in
    let behind : c.saturating_sub-behind.result ≡ end_of a.next - low_of a.set =
    omega (arith, c.saturating_sub-behind.ensures, c.end-2.ensures) in
    window_says a.set a.next a.range c.both-left.result c.both.result c.both-left.type_inv c.both.type_inv
    (λ k l.
    c.both-left.ensures k
    ∙ ap₂ (λ (x y : Bool). x && y) (c.from.ensures k l ∙ ap (λ (e : ℕ). leb e k) start)
    (c.below.ensures k l ∙ ap (λ (e : ℕ). ltb k e) behind))
    c.both.ensures
