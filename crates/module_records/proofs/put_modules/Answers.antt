use Rattle.std.proofs.Common.{◌≡◌, ℕ, false, Bool, List, ◌∷◌, ap, ◌∙◌, arith}
use Rattle.text.specs.Writing.{Wrote}
use Rattle.encode.specs.Encode.{section_bytes}
use Rattle.encode.proofs.Left.{Left, less-left}
use Rattle.encode.proofs.Lengths.{length-section, section-append}
use Rattle.modules.specs.Modules.{Module, pin_count, gap_of, module_terminals, terminals_behind, side_terminals}
use Rattle.modules.specs.Bytes.{modules_in}
use Rattle.modules.specs.Left.{modules_left}
use Rattle.modules.proofs.Terminals.{length-behind, length-terminals}
use Rattle.module_records.specs.Behind.{is_first, gap_behind}
use Rattle.module_records.proofs.put_modules.Goals as goal

-- one module more is written
next-left :
    {old all mid new : List ℕ} {at end end' gap' : ℕ} (first : Bool) (gap : ℕ) {m : Module} {ms modules : List Module} → modules ≡ m ∷ ms
    → gap' ≡ gap_of m
    → Left old at all mid end (section_bytes (terminals_behind first gap modules))
    → Wrote mid end (section_bytes (module_terminals first gap m)) new end'
    → Left old at all new end' (section_bytes (terminals_behind false gap' ms))
next-left first gap {m} {ms} e g left w =
    rw g (less-left (rw (e, section-append (module_terminals first gap m) (terminals_behind false (gap_of m) ms)) at left) w)

pub put_module-requires : goal.put_module-requires
put_module-requires c =
    let l = c.loop-m in
    let steps = c.in-Some.ensures.steps in
    let writable = rw steps at l.invariant.1 in
    let ms = modules_left l.m-iterator in
    let side = modules_in c.args.side.now in (
      writable.0,
      omega (arith, l.invariant.2),
      omega (
        arith,
        l.invariant.0.place,
        l.invariant.0.size,
        length-section (terminals_behind (is_first l.gap) (gap_behind l.gap) ms),
        length-behind (is_first l.gap) (gap_behind l.gap) ms,
        ap pin_count steps,
        length-section (side_terminals side),
        length-terminals side,
        c.requires.1,
      ),
    )

pub loop-m-preserved : goal.loop-m-preserved
loop-m-preserved c =
    let (left, all, _, buffer) = c.loop-m.invariant in
    let steps = c.in-Some.ensures.steps in
    let writable = rw steps at all in (
      next-left (is_first c.loop-m.gap) (gap_behind c.loop-m.gap) steps c.put_module.ensures.gap left c.put_module.ensures.records.wrote,
      writable.1,
      omega (arith, c.put_module.ensures.gap, writable.0.0.0),
      c.put_module.ensures.records.buffer ∙ buffer,
    )
