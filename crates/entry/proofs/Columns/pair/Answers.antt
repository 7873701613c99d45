-- `entry::Columns::pair` meets its contract.
-- Assumes nothing.
use Rattle.std.proofs.Common.{◌+◌, ◌-◌, sym, ◌∙◌, true, false, arith, tests, eqb}
use Rattle.std.proofs.Math.Bool.{and-true, and-false}
use Rattle.bits.proofs.Laws.{bit_zero}
use Rattle.entry.specs.Entry.{cell}
use Rattle.entry.proofs.Parts.{pair_bits}
use Rattle.entry.proofs.Columns.pair.Goals as goal

pub returns-then-x-i : goal.returns-then-x-i
returns-then-x-i c = λ y h. grind (arith, tests, bit_zero)

pub returns-then-not-bit : goal.returns-then-not-bit
returns-then-not-bit c = λ y h.
    let top = c.args.self.pairs.0 c.args.x in
    let bottom = c.args.self.pairs.1 y in
    grind (arith, tests, bit_zero)

pub returns-then-not-meets : goal.returns-then-not-meets
returns-then-not-meets c = λ y h.
    let s = c.args.self in
    let f = s.filling in
    let in_top = sym c.bit.ensures ∙ c.if-not-bit.false in
    let in_bottom = sym c.bit-else-not-bit.ensures ∙ c.if-not-bit-2.false in
    let at = c.args.x + s.i - s.j in
    bit_zero y
    ∙ sym (and-false (eqb y at))
    ∙ pair_bits f.rules.now.words f.loads.now f.bound s.i s.j c.args.x y at s.pair s.partner s.by c.args.diagonal
    (cell f.rules.now.words f.loads.now f.bound (s.i - 1) (s.j - 1)) false (omega arith) s.pairs s.steps
    (λ p q. c.requires.1 in_top q p) (omega arith) in_top in_bottom (sym c.if-not-meets.true ∙ c.meets.ensures s.by s.turned)

pub returns : goal.returns
returns c = λ y h.
    let s = c.args.self in
    let f = s.filling in
    let in_top = sym c.bit.ensures ∙ c.if-not-bit.false in
    let in_bottom = sym c.bit-else-not-bit.ensures ∙ c.if-not-bit-2.false in
    let at = c.args.x + s.i - s.j in
    c.single.ensures y h
    ∙ sym (and-true (eqb y at))
    ∙ pair_bits f.rules.now.words f.loads.now f.bound s.i s.j c.args.x y at s.pair s.partner s.by c.args.diagonal
    (cell f.rules.now.words f.loads.now f.bound (s.i - 1) (s.j - 1)) true (omega arith) s.pairs s.steps
    (λ p q. c.requires.1 in_top q p) (omega arith) in_top in_bottom (sym c.if-not-meets.false ∙ c.meets.ensures s.by s.turned)
