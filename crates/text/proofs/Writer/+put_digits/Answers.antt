-- All digits but the last are written by the call of itself, with one less at most.
use Rattle.std.proofs.Common.{◌-◌, ◌/◌, ◌∙◌, arith}
use Rattle.text.proofs.Writes.{wrote_digits}
use Rattle.text.proofs.Numbers.{digits_at_most}
use Rattle.text.proofs.Writer.+put_digits.Goals as goal

pub put_byte-requires-2 : goal.put_byte-requires-2
put_byte-requires-2 t c =
    let a = c.args in
    let w = c.put_digits.ensures in
    omega (arith, digits_at_most (a.most - 1) (a.n / 10), w.room, w.wrote.place)

pub returns : goal.returns
returns t c =
    let digits = c.put_digits.ensures in
    let last = c.put_byte-2.ensures in
    record {
      wrote = wrote_digits _ _ _ c.if-most-eq0.false c.if-n-lt10.false c.digit-2.ensures digits.wrote last.wrote;
      buffer = last.buffer ∙ digits.buffer;
      room = last.room ∙ digits.room;
    }
