use Rattle.std.proofs.Common.{ℕ, refl, ◌∙◌, arith, length-set, get_or, get_or-set_other}
use Rattle.std.proofs.lemmas.List.{get_or-replicate}
use Rattle.bits.specs.Bits.{bit_of}
use Rattle.rows.proofs.Back.{found_none, found_more, made_none, made_more}
use Rattle.rows.proofs.all_before.Goals as goal

pub loop-x-init : goal.loop-x-init
loop-x-init c =
    let rows = c.args.rows.now in
    let f = λ (n y : ℕ). bit_of (get_or rows n 0) y in
    rw c.requires.2 (found_none f c.args.least, refl, made_none f c.args.least c.requires.1, λ x h k. get_or-replicate 64 x 0 0 k)

pub loop-x-preserved : goal.loop-x-preserved
loop-x-preserved c =
    let l = c.loop-x in
    let rows = c.args.rows.now in
    let f = λ (n y : ℕ). bit_of (get_or rows n 0) y in
    let found = found_more f c.args.least l.x l.found _ (omega arith) c.either-found.ensures l.invariant.0 in (
      found,
      length-set _ _ _ ∙ l.invariant.1,
      made_more f c.args.least l.x _ l.unions (omega (arith, l.invariant.1)) found l.invariant.2,
      λ x h k. get_or-set_other l.unions l.x x _ 0 (omega arith) ∙ l.invariant.3 x h k,
    )
