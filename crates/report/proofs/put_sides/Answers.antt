-- `report::put_sides` meets its contract: the lines of the two sections are those of the sheet.
-- Assumes nothing.
use Rattle.sheet.specs.Sections.{sheet_held}
use Rattle.text.proofs.Writes.{behind, same_written}
use Rattle.report.proofs.Sides.{side-lines}
use Rattle.report.proofs.put_sides.Goals as goal

pub returns-clause-wrote : goal.returns-clause-wrote
returns-clause-wrote c =
    let m = c.args.sections in
    same_written
    (side-lines (sheet_held m) m.shape.top c.args.columns.now c.requires.0 c.requires.1)
    (behind c.put_side.ensures.wrote c.put_side-2.ensures.wrote)
