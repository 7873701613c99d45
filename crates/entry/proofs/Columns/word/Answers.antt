-- `entry::Columns::word` meets its contract.
-- Assumes nothing.
use Rattle.std.proofs.Common.{Bool, ◌||◌, sym, ◌∙◌, ap₂}
use Rattle.bits.proofs.Laws.{bit_zero}
use Rattle.entry.specs.Entry.{entry}
use Rattle.entry.proofs.Table.{entry-cell}
use Rattle.entry.proofs.Columns.word.Goals as goal

pub returns-then-not-bit : goal.returns-then-not-bit
returns-then-not-bit c = λ y h. bit_zero y ∙ sym (c.args.self.rows_are c.args.x y (sym c.bit.ensures ∙ c.if-not-bit.true))

pub returns : goal.returns
unfolding entry
returns c = λ y h.
    let s = c.args.self in
    let f = s.filling in
    c.either-3.ensures y
    ∙ ap₂ (λ (s t : Bool). s || t) (c.start-nothing.ensures y h)
    (c.either-2.ensures y
    ∙ ap₂ (λ (s t : Bool). s || t) (c.top-one.ensures y h)
    (c.either.ensures y ∙ ap₂ (λ (s t : Bool). s || t) (c.bottom-other.ensures y h) (c.pair-two.ensures y h)))
    ∙ entry-cell f.rules.now.words f.loads.now f.bound s.i s.j c.args.x y
