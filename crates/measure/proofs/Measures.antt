-- A measurement, from what the list's check and the counting answer.
-- Assumes nothing.
use Rattle.std.proofs.Common.{Ok, Err, ◌≡◌, ℕ, List, ◌∙◌, ap, ap₂}
use Rattle.channel.specs.Density.{density}
use Rattle.refusals.specs.declared.ListRefusal.{ListRefusal}
use Rattle.sheet.specs.Sections.{sheet_held}
use Rattle.std.specs.Borrow.{Bor}
use Rattle.list.specs.Answer.{listed_of}
use Rattle.list.specs.Listed.{GivesListed}
use Rattle.list.specs.declared.listed.ListedSheet.{ListedSheet}
use Rattle.list.proofs.Laws.{given, refused}
use Rattle.measure.specs.Answer.{measured_of}

module _ (s columns : Bor (List ℕ)) where
  pub list_refused : (why : ListRefusal) → GivesListed s columns (listed_of s.now columns.now) (Err why) → Err why ≡ measured_of s.now columns.now
  unfolding measured_of
  list_refused why e = rw (refused s columns why e)

  pub density_counted :
      (m : ListedSheet) → GivesListed s columns (listed_of s.now columns.now) (Ok m)
      → (d : ℕ) → d ≡ density (sheet_held m.sections) m.columns.now → Ok d ≡ measured_of s.now columns.now
  unfolding measured_of
  density_counted m e d counted =
      let came = given s columns m e in
      rw came.answer (ap Ok (counted ∙ ap₂ density came.same (ap (λ (b : Bor (List ℕ)). b.now) came.own)))
