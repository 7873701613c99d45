-- `module_records::put_modules` meets its contract: each turn writes the records of one module and leaves those behind it.
-- Assumes nothing.
use Rattle.std.proofs.Common.{◌≡◌, ◌≤◌}
use Rattle.encode.specs.Encode.{section_bytes}
use Rattle.encode.proofs.Left.{Left}
use Rattle.modules.specs.Modules.{terminals_behind, side_terminals}
use Rattle.modules.specs.Bytes.{modules_in}
use Rattle.modules.specs.Left.{modules_left}
use Rattle.module_records.specs.Writable.{AllWritable}
use Rattle.module_records.specs.Behind.{is_first, gap_behind}
use Rattle.module_records.proofs.put_modules.Given as goal

abbrev pub invariant-loop-m : goal.invariant-loop-m
invariant-loop-m l =
    Left l.initial.records.out.now l.initial.records.end (section_bytes (side_terminals (modules_in l.side))) l.records.out.now l.records.end
    (section_bytes (terminals_behind (is_first l.gap) (gap_behind l.gap) (modules_left l.m-iterator)))
    × AllWritable (modules_left l.m-iterator)
    × (gap_behind l.gap ≤ 64)
    × (l.records.out.ghost_name ≡ l.initial.records.out.ghost_name)
