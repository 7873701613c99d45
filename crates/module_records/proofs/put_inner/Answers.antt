use Rattle.std.proofs.Common.{◌≡◌, ℕ, ◌-◌, List, ◌∷◌, length, ap, ◌∙◌, arith}
use Rattle.text.specs.Writing.{Wrote}
use Rattle.text.proofs.Writes.{same_text}
use Rattle.terminal.specs.declared.Record.{Record}
use Rattle.terminal.specs.Terminal.{record_of, terminal_of}
use Rattle.encode.specs.Encode.{record_bytes, section_bytes}
use Rattle.encode.proofs.Left.{Left, less-left}
use Rattle.modules.specs.declared.Pin.{Pin}
use Rattle.modules.specs.Modules.{pin_terminal, inner_terminals}
use Rattle.modules.specs.Left.{pins_left}
use Rattle.module_records.proofs.Pins.{first-later, length-later}
use Rattle.module_records.proofs.put_inner.Goals as goal

-- one pin more is written
next-left :
    {old all mid new : List ℕ} {at end end' : ℕ} (edges last : ℕ) {p : Pin} {ps pins : List Pin} {r : Record} → pins ≡ p ∷ ps
    → r ≡ record_of (pin_terminal edges (p.offset - last) (p.offset - last) p)
    → Left old at all mid end (section_bytes (inner_terminals edges last pins))
    → Wrote mid end (record_bytes (terminal_of r)) new end'
    → Left old at all new end' (section_bytes (inner_terminals edges p.offset ps))
next-left edges last e f left w = less-left (rw e at left) (same_text (ap (λ (x : Record). record_bytes (terminal_of x)) f) w)

pub record_of-requires : goal.record_of-requires
record_of-requires c = (first-later c.args.width c.args.edges c.loop-pin.last c.in-Some.ensures.steps c.loop-pin.invariant.1).1

pub put_record-requires : goal.put_record-requires
put_record-requires c =
    let l = c.loop-pin in
    let a = c.args in
    let all = length-later a.edges a.before (pins_left a.pins) in
    let rest = length-later a.edges l.last (pins_left l.pin-iterator) in
    let one = ap (λ (ps : List Pin). length ps) c.in-Some.ensures.steps in
    omega (arith, l.invariant.0.place, l.invariant.0.size, all, rest, one, c.requires.0)

pub loop-pin-preserved : goal.loop-pin-preserved
loop-pin-preserved c =
    let (left, later, last, buffer) = c.loop-pin.invariant in
    let steps = c.in-Some.ensures.steps in (
      next-left c.args.edges c.loop-pin.last steps c.record_of.ensures left c.put_record.ensures.wrote,
      (first-later c.args.width c.args.edges c.loop-pin.last steps later).2,
      rw steps at last,
      c.put_record.ensures.buffer ∙ buffer,
    )
