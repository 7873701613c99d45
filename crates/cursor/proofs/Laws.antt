-- What the layers above may use of the cursor: laws of its definitions.
-- Assumes nothing.
use Rattle.std.proofs.Common.{◌≡◌, ℕ, suc, ◌+◌, ◌<◌, ◌≤◌, List, [], ◌∷◌, ◌++◌, length, Some, None, refl, ap, ◌∙◌, inl, inr}
use Rattle.std.proofs.lemmas.Bool.{cases_lt}
use Rattle.std.proofs.lemmas.Option.{none-some}
use Rattle.channel.specs.Sheet.{Terminal, Sheet}
use Rattle.channel.specs.declared.Side.{Side}
use Rattle.channel.specs.declared.Side.TheVariants.{Top, Bottom}
use Rattle.soundness.specs.Read.{read}
use Rattle.cursor.specs.declared.Cursor.{Cursor}
use Rattle.cursor.specs.declared.Visit.{Visit}
use Rattle.sheet.specs.Parts.{shape_of}
use Rattle.cursor.proofs.Steps.{step_end, step_passes}
use Rattle.cursor.specs.Visits.{visits, all_visits, step_as, step_of}

-- the steps go through the terminals of the top, then through those of the bottom
pub visits_of_lem : (s : Sheet) → all_visits s ≡ visits Top 1 s.top ++ visits Bottom 1 s.bottom
unfolding all_visits
visits_of_lem s = refl

pub length-visits : (side : Side) (k : ℕ) (ts : List Terminal) → length (visits side k ts) ≡ length ts
length-visits side k [] = refl
length-visits side k (t ∷ ts) = ap suc (length-visits side (k + 1) ts)

-- and a step goes by what the bytes read as
pub step_of_lem : (b : List ℕ) (c : Cursor) → step_of b c ≡ step_as c.passed (read b)
unfolding step_of
step_of_lem b c = refl

-- a step that finds a terminal stands before the last, and its cursor is past it; past the terminals there is none
module _ (b : List ℕ) (c : Cursor) where
  pub step_past_end : (shape_of b).pins ≤ c.passed → None ≡ step_of b c
  unfolding shape_of step_of
  step_past_end h = step_end c.passed (read b) h

  pub step_found :
      (v : Visit) (past : Cursor) → step_of b c ≡ Some (v, past) → (c.passed < (shape_of b).pins) × (past.passed ≡ c.passed + 1)
  unfolding step_of
  step_found v past h = (
    elim (cases_lt c.passed (shape_of b).pins) [ inl before ↦ before | inr behind ↦ absurd (none-some _ (step_past_end behind ∙ h)) ],
    step_passes c.passed (read b) v past h,
  )
