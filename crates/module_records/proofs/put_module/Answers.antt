-- `module_records::put_module` meets its contract: the record of the first pin, then those behind it.
-- Assumes nothing.
use Rattle.std.proofs.Common.{◌≡◌, refl, ℕ, Bool, List, ◌∷◌, ◌++◌, arith}
use Rattle.text.proofs.Writes.{behind, same_written}
use Rattle.terminal.specs.declared.Record.{Record}
use Rattle.terminal.specs.Terminal.{record_of, terminal_of}
use Rattle.encode.specs.Encode.{record_bytes, section_bytes}
use Rattle.modules.specs.declared.Pin.{Pin}
use Rattle.modules.specs.Modules.{Module, pin_terminal, inner_terminals, first_least, first_greatest, module_terminals}
use Rattle.modules.specs.Left.{module_left}
use Rattle.module_records.specs.Behind.{is_first, gap_behind}
use Rattle.module_records.proofs.Pins.{first-later, module_pins}
use Rattle.module_records.proofs.put_module.Goals as goal

-- the two parts make the module's bytes
module-bytes :
    (is_first : Bool) (gap : ℕ) (m : Module) {least greatest : ℕ} {p : Pin} {ps : List Pin} {r : Record} → m.pins ≡ p ∷ ps
    → least ≡ first_least is_first gap p.offset → greatest ≡ first_greatest is_first
    → r ≡ record_of (pin_terminal m.edges least greatest p)
    → record_bytes (terminal_of r) ++ section_bytes (inner_terminals m.edges p.offset ps) ≡ section_bytes (module_terminals is_first gap m)
module-bytes is_first gap m e l g f = rw (f, l, g, e) refl

pub first_least-least-requires : goal.first_least-least-requires
first_least-least-requires c =
    let m = c.args.m in
    let first = first-later m.width m.edges 0 c.in-Some.ensures.steps (module_pins (module_left m) c.requires.0) in
    omega (arith, c.requires.1, first.1)

pub record_of-requires : goal.record_of-requires
record_of-requires c =
    let m = c.args.m in
    (first-later m.width m.edges 0 c.in-Some.ensures.steps (module_pins (module_left m) c.requires.0)).1

pub returns-clause-records : goal.returns-clause-records
returns-clause-records c =
    let a = c.args in
    same_written
    (module-bytes (is_first a.gap) (gap_behind a.gap) (module_left a.m) c.in-Some.ensures.steps c.first_least-least.ensures
    c.first_greatest-greatest.ensures c.record_of.ensures)
    (behind c.put_record.ensures c.put_inner.ensures.records)
