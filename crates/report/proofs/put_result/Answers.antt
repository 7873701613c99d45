-- The line of the density, then the lines of the terminals.
use Rattle.std.proofs.Common.{◌≤◌, length, sym, arith, length-take-le}
use Rattle.text.proofs.Writes.{written_nothing, behind, same_written}
use Rattle.report.proofs.Sides.{refused-lines, opened_shape, tops, tops-few, held_visits}
use Rattle.report.proofs.put_result.Goals as goal

pub slice_bounds-put_sides-end : goal.slice_bounds-put_sides-end
slice_bounds-put_sides-end c =
    sym (length-take-le _ _ (rw (opened_shape _ _ (sym c.in-Ok.ensures)) c.requires.input_in_bounds))

pub put_sides-requires : goal.put_sides-requires
put_sides-requires c =
    let opens = sym c.in-Ok.ensures in
    let newline = c.put_byte.ensures in
    let name = c.put_field.ensures in
    let few = tops-few c.args.input _ opens _ c.sections.ensures in
    let pins : c.in-Ok.layout.shape.pins ≤ length c.args.columns.now = rw (opened_shape _ _ opens) c.requires.input_in_bounds in
    let size = length-take-le c.in-Ok.layout.shape.pins c.args.columns.now pins in (
      tops c.args.input _ opens _ c.sections.ensures,
      omega (arith, few, size),
      omega (arith, newline.wrote.place, name.upper_bound, newline.room, name.wrote.room, c.requires.columns_in_bounds, size, pins),
    )

pub returns-in-Ok-clause-wrote : goal.returns-in-Ok-clause-wrote
returns-in-Ok-clause-wrote c =
    let opens = sym c.in-Ok.ensures in
    rw (← opened_shape _ _ opens, ← held_visits c.args.input _ opens _ c.sections.ensures)
    (behind c.put_field.ensures.wrote (behind c.put_byte.ensures c.put_sides.ensures.wrote))

pub returns-in-Err-clause-wrote : goal.returns-in-Err-clause-wrote
returns-in-Err-clause-wrote c =
    let none = refused-lines _ _ _ (sym c.in-Err.ensures) in
    behind c.put_field.ensures.wrote (behind c.put_byte.ensures (same_written none written_nothing))
