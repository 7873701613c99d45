-- What is given of a column list: an assignment beside the sections of its sheet, or why the list is none.
-- Assumes nothing.
use Rattle.std.specs.Prelude.{◌≡◌, List, ℕ, Result, Ok, Err}
use Rattle.std.specs.Borrow.{Bor}
use Rattle.refusals.specs.declared.ListRefusal.{ListRefusal}
use Rattle.sheet.specs.declared.Layout.{Layout}
use Rattle.sheet.specs.Sections.{Held}
use Rattle.list.specs.declared.listed.ListedSheet.{ListedSheet}

-- this answer, an assignment with the caller's own slices
abbrev pub GivesListed : Bor (List ℕ) → Bor (List ℕ) → Result Layout ListRefusal → Result ListedSheet ListRefusal → Type 0
GivesListed s columns (Ok n) (Ok m) = Held s n m.sections × (m.columns ≡ columns)
GivesListed s columns (Ok n) (Err why) = ⊥
GivesListed s columns (Err why) (Ok m) = ⊥
GivesListed s columns (Err why) (Err given) = given ≡ why
