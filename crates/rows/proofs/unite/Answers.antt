use Rattle.std.proofs.Common.{ℕ, suc, ◌-◌, ◌≡◌, sym, ◌∙◌, ap, true, ◌&&◌, arith, lt-ltb}
use Rattle.channel.proofs.Below.{any_below_cong}
use Rattle.bits.specs.Bits.{bit_of}
use Rattle.rows.specs.Held.{held}
use Rattle.rows.proofs.Back.{back-open, same_where}
use Rattle.rows.proofs.unite.Goals as goal

pub returns-then-both : goal.returns-then-both
returns-then-both c =
    let a = c.args in (
      λ x y h.
          c.all_before.ensures.0 x y h
          ∙ any_below_cong _ _ _ (λ n l. ap (λ (w : ℕ). bit_of w y) (c.read_rows-rows.ensures n (omega arith)))
          ∙ back-open (λ (n : ℕ). held a.work.now a.base n y) x (bit_of a.by) c.lowest-least.result
          (λ k l.
          let here : bit_of c.below-inside.result k ≡ true = c.below-inside.ensures k (omega arith) ∙ lt-ltb k a.count (omega arith) in
          same_where _ _ _ here (sym (c.both.ensures k) ∙ ap (λ (w : ℕ). bit_of w k) c.if-both.true ∙ c.both-2.ensures k)
          ∙ c.from.ensures k (omega arith)),
      c.all_before.ensures.1,
    )

pub returns : goal.returns
returns c =
    let a = c.args in (
      λ x y h.
          c.step_by_step.ensures.0 x y h
          ∙ any_below_cong (suc x) _ _ (λ n l. ap (λ (w : ℕ). bit_of a.by (x - n) && bit_of w y) (c.read_rows-rows.ensures n (omega arith))),
      c.step_by_step.ensures.1,
    )
