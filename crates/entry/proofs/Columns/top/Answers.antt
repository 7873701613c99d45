-- `entry::Columns::top` meets its contract.
-- Assumes nothing.
use Rattle.std.proofs.Common.{◌∙◌, sym, arith, tests, ltb-true}
use Rattle.std.proofs.Math.Bool.{and-eq-true_iff}
use Rattle.entry.proofs.Columns.top.Goals as goal

pub returns : goal.returns
returns c = λ y h.
    let s = c.args.self in
    let in_top = sym c.bit.ensures ∙ c.if-not-bit.false in
    let columns = (and-eq-true_iff _ _).0 (sym (s.tops c.args.x) ∙ in_top) in
    let union = c.requires.1 in_top (ltb-true 0 s.i columns.0) y h in
    grind (arith, tests)
