-- A step of a reader: what it finds, and the place after it (document 01, "The sheet").
-- Assumes nothing.
use Rattle.std.specs.Prelude.{ℕ, ◌-◌, ◌≡◌, List, Option, Some, None}
use Rattle.std.specs.Iterator.{Count, at_most}
use Rattle.sheet.specs.Parts.{shape_of}
use Rattle.cursor.specs.declared.Cursor.{Cursor}
use Rattle.cursor.specs.declared.Visit.{Visit}
use Rattle.cursor.specs.Visits.{step_of}
use Rattle.reader.specs.declared.Reader.{Reader}

-- what a sheet has after so many terminals: the next of them, with its side, place and record, or the end
abbrev pub step_at : List ℕ → ℕ → Option (Visit × Cursor)
step_at b passed = step_of b (record { passed = passed })

-- how many terminals have been passed after a step; at the end the number stays
abbrev pub passed_after : Option (Visit × Cursor) → ℕ → ℕ
passed_after (Some (v, past)) passed = past.passed
passed_after None passed = passed

-- the terminal that a step finds
abbrev pub visit_found : Option (Visit × Cursor) → Option Visit
visit_found (Some (v, past)) = Some v
visit_found None = None

-- the promise of a step: what it finds, and that the reader after it holds the same sheet, at the place after the step
pub record Stepped (before : Reader) (r : Option Visit) (after : Reader) : Type 0 where
  pub found : r ≡ visit_found (step_at before.sheet.now before.passed)
  pub sheet : after.sheet ≡ before.sheet
  pub place : after.passed ≡ passed_after (step_at before.sheet.now before.passed) before.passed

-- so many steps still find a terminal
abbrev pub terminals_left : Reader → Count
terminals_left r = at_most ((shape_of r.sheet.now).pins - r.passed)
