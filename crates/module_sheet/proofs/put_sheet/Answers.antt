-- `module_sheet::put_sheet` meets its contract: the top section, the bottom section behind it, then the trailer.
-- Assumes nothing.
use Rattle.std.proofs.Common.{◌≡◌, ℕ, ◌*◌, List, ◌++◌, length, sym, ap, ◌∙◌, ap₂, arith, rules}
use Rattle.text.proofs.Writes.{behind, same_written}
use Rattle.mark.specs.declared.Mark.TheVariants.{Cp}
use Rattle.format.specs.Format.{record_size}
use Rattle.encode.specs.Encode.{section_bytes, trailer_bytes, top_first, sheet_bytes}
use Rattle.encode.proofs.Lengths.{length-section}
use Rattle.modules.specs.Modules.{Module, pin_count, side_terminals, module_sheet}
use Rattle.modules.specs.Bytes.{modules_in}
use Rattle.modules.proofs.Terminals.{length-terminals}
use Rattle.module_sheet.proofs.put_sheet.Goals as goal

-- how many bytes the section of a side takes
length-side : (ms : List Module) → length (section_bytes (side_terminals ms)) ≡ record_size * pin_count ms
length-side ms = length-section (side_terminals ms) ∙ ap (λ (n : ℕ). record_size * n) (length-terminals ms)

-- the three make the sheet
sheet-bytes :
    (l p q : ℕ) (top bottom : List Module) → p ≡ pin_count top → q ≡ pin_count bottom
    → section_bytes (side_terminals top) ++ section_bytes (side_terminals bottom) ++ trailer_bytes (top_first l p q) Cp
    ≡ sheet_bytes (module_sheet l top bottom)
unfolding sheet_bytes
sheet-bytes l p q top bottom e f =
    ap₂ (λ (m n : ℕ). section_bytes (side_terminals top) ++ section_bytes (side_terminals bottom) ++ trailer_bytes (top_first l m n) Cp)
    (e ∙ sym (length-terminals top)) (f ∙ sym (length-terminals bottom))

pub put_modules-requires-2 : goal.put_modules-requires-2
put_modules-requires-2 c =
    let top = c.put_modules.ensures in (
      c.requires.1,
      omega (
        arith,
        top.wrote.place,
        top.room,
        length-side (modules_in c.args.top.bytes.now),
        c.args.top.counted,
        c.args.bottom.counted,
        c.requires.3,
      ),
    )

pub put_trailer-requires : goal.put_trailer-requires
put_trailer-requires c =
    let top = c.put_modules.ensures in
    let bottom = c.put_modules-2.ensures in
    omega (
      arith,
      top.wrote.place,
      top.room,
      bottom.wrote.place,
      bottom.room,
      length-side (modules_in c.args.top.bytes.now),
      length-side (modules_in c.args.bottom.bytes.now),
      c.args.top.counted,
      c.args.bottom.counted,
      c.requires.3,
    )

pub returns : goal.returns
returns c =
    let a = c.args in
    let written =
    same_written
    (sheet-bytes a.columns a.top.pins a.bottom.pins (modules_in a.top.bytes.now) (modules_in a.bottom.bytes.now) a.top.counted a.bottom.counted)
    (behind (behind c.put_modules.ensures c.put_modules-2.ensures) c.put_trailer.ensures) in
    search rules
