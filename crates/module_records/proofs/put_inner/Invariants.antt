-- `module_records::put_inner` meets its contract: each turn writes the record of one pin and leaves those behind it.
-- Assumes nothing.
use Rattle.std.proofs.Common.{◌≡◌}
use Rattle.encode.specs.Encode.{section_bytes}
use Rattle.encode.proofs.Left.{Left}
use Rattle.modules.specs.Modules.{last_offset, inner_terminals}
use Rattle.modules.specs.Left.{pins_left}
use Rattle.module_records.specs.Writable.{Later}
use Rattle.module_records.proofs.put_inner.Given as goal

abbrev pub invariant-loop-pin : goal.invariant-loop-pin
invariant-loop-pin l =
    Left l.initial.out.out.now l.initial.out.end (section_bytes (inner_terminals l.edges l.before (pins_left l.fn.pins))) l.out.out.now l.out.end
    (section_bytes (inner_terminals l.edges l.last (pins_left l.pin-iterator)))
    × Later l.width l.edges l.last (pins_left l.pin-iterator)
    × (last_offset l.last (pins_left l.pin-iterator) ≡ last_offset l.before (pins_left l.fn.pins))
    × (l.out.out.ghost_name ≡ l.initial.out.out.ghost_name)
