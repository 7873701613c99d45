-- `sheet::record_at` meets its contract: a record of a side is the record of its section.
-- Assumes nothing.
use Rattle.std.proofs.Common.{ℕ, List, ap, ◌∙◌}
use Rattle.sheet.specs.Parts.{entry_in}
use Rattle.sheet.proofs.Places.{entry-section}
use Rattle.sheet.proofs.parts.record_at.Goals as goal

pub returns : goal.returns
returns c =
    let a = c.args in
    c.record_in.ensures
    ∙ ap (λ (part : List ℕ). entry_in part a.place) c.section.ensures.bytes
    ∙ entry-section a.s.now a.side a.place
