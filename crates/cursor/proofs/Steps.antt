-- Laws of the steps: what a step finds on the top side, on the bottom side and past both.
-- Assumes nothing.
use Rattle.std.proofs.Common.{◌≡◌, ℕ, zero, suc, ◌+◌, ◌-◌, ◌<◌, ◌≤◌, List, [], ◌∷◌, ◌++◌, length, Some, None, Option, sym, refl, ap, ◌∙◌, append-nil, add-zero, add-one, arith}
use Rattle.std.proofs.Math.Nat.{sub-zero}
use Rattle.std.proofs.lemmas.Option.{none-some}
use Rattle.channel.specs.Sheet.{Terminal, Sheet}
use Rattle.channel.specs.declared.Side.{Side}
use Rattle.channel.specs.declared.Side.TheVariants.{Top, Bottom}
use Rattle.soundness.specs.Read.{Read}
use Rattle.soundness.specs.Read.Read.{sound, refused}
use Rattle.cursor.specs.declared.Cursor.{Cursor}
use Rattle.cursor.specs.declared.Visit.{Visit}
use Rattle.sheet.specs.Parts.{shape_as, nth, entry_of, entry_as}
use Rattle.cursor.specs.Visits.{visits, all_visits, visit_of, step_in, step_as}

-- a step within one side, of which the first place is j, and a step past it
module _ (side : Side) (vs : List Visit) (next : Cursor) where
  step-within :
      (j : ℕ) (ts : List Terminal) (k : ℕ) → k < length ts
      → step_in (visits side j ts ++ vs) k next ≡ visit_of side (j + k) next (nth ts k)
  step-within j [] k h = elim h [ ]
  step-within j (t ∷ ts) zero h = rw add-zero
  step-within j (t ∷ ts) (suc k) h =
      step-within (j + 1) ts k (omega arith) ∙ ap (λ (i : ℕ). visit_of side i next (nth ts k)) (omega arith)

  step_past :
      (j : ℕ) (ts : List Terminal) (k : ℕ) → length ts ≤ k → step_in (visits side j ts ++ vs) k next ≡ step_in vs (k - length ts) next
  step_past j (t ∷ ts) zero h = elim h [ ]
  step_past j [] k h = rw sub-zero
  step_past j (t ∷ ts) (suc k) h = step_past (j + 1) ts k (omega arith) ∙ ap (λ (i : ℕ). step_in vs i next) (omega arith)

-- the same at a place that counts from 1
step-place :
    (side : Side) (vs : List Visit) (next : Cursor) (ts : List Terminal) (k : ℕ) → k < length ts
    → step_in (visits side 1 ts ++ vs) k next ≡ visit_of side (k + 1) next (entry_of ts (k + 1))
step-place side vs next ts k h =
    step-within side vs next 1 ts k h
    ∙ ap (λ (i : ℕ). visit_of side i next (nth ts k)) (omega arith)
    ∙ ap (λ (i : ℕ). visit_of side (k + 1) next (entry_of ts i)) (sym (add-one k))

-- the cursor past `passed` terminals and one more
next : ℕ → Cursor
next passed = record { passed = passed + 1 }

-- past the top side the steps go on with the bottom side
step-below :
    (s : Sheet) (passed : ℕ) → length s.top ≤ passed
    → step_in (all_visits s) passed (next passed) ≡ step_in (visits Bottom 1 s.bottom ++ []) (passed - length s.top) (next passed)
unfolding all_visits
step-below s passed h =
    rw (append-nil (visits Bottom 1 s.bottom)) (step_past Top (visits Bottom 1 s.bottom) (next passed) 1 s.top passed h)

-- what is found comes with the cursor past it
past_of : Option (Visit × Cursor) → ℕ
past_of (Some (v, past)) = past.passed
past_of None = 0

step_next :
    (vs : List Visit) (k : ℕ) (at past : Cursor) (v : Visit) → step_in vs k at ≡ Some (v, past) → past.passed ≡ at.passed
unfolding past_of
step_next [] k at past v h = absurd (none-some _ h)
step_next (u ∷ vs) zero at past v h = sym (ap past_of h)
step_next (u ∷ vs) (suc k) at past v h = step_next vs k at past v h

pub step_passes : (passed : ℕ) (r : Read) (v : Visit) (past : Cursor) → step_as passed r ≡ Some (v, past) → past.passed ≡ passed + 1
unfolding next
step_passes passed (sound s) v past h = step_next (all_visits s) passed (next passed) past v h
step_passes passed (refused n) v past h = absurd (none-some _ h)

-- a step of a sheet as read
module _ (passed : ℕ) where
  pub step-top :
      (r : Read) → passed < (shape_as r).top
      → visit_of Top (passed + 1) (record { passed = passed + 1 }) (entry_as Top (passed + 1) r) ≡ step_as passed r
  unfolding all_visits next
  step-top (sound s) h = sym (step-place Top (visits Bottom 1 s.bottom) (next passed) s.top passed h)
  step-top (refused n) h = absurd (omega arith)

  pub step-bottom :
      (r : Read) → (shape_as r).top ≤ passed → passed < (shape_as r).pins
      → (let place : ℕ = passed - (shape_as r).top + 1 in visit_of Bottom place (record { passed = passed + 1 }) (entry_as Bottom place r))
      ≡ step_as passed r
  unfolding next
  step-bottom (sound s) h g =
      sym (step-below s passed h ∙ step-place Bottom [] (next passed) s.bottom (passed - length s.top) (omega arith))
  step-bottom (refused n) h g = absurd (omega arith)

  pub step_end : (r : Read) → (shape_as r).pins ≤ passed → None ≡ step_as passed r
  unfolding next
  step_end (sound s) h =
      sym (step-below s passed (omega arith) ∙ step_past Bottom [] (next passed) 1 s.bottom (passed - length s.top) (omega arith))
  step_end (refused n) h = refl
