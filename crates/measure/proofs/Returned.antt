-- What a measurement returned: the number and the amount of the list's check, and a density exactly where the list is an assignment.
-- Assumes nothing.
use Rattle.std.proofs.Common.{Result, Ok, Err, ℕ, ◌≡◌, refl, sym, ◌∙◌, ap, List}
use Rattle.channel.specs.Sheet.{Sheet}
use Rattle.channel.specs.Density.{density}
use Rattle.soundness.specs.Read.{sheet_of, read}
use Rattle.soundness.specs.Read.Read.{sound}
use Rattle.soundness.proofs.Laws.{read_checked}
use Rattle.refusals.proofs.Refused.{list_number_some}
use Rattle.list.specs.Answer.{listed_of}
use Rattle.list.specs.Returned as list
use Rattle.list.proofs.Returned.{one_list}
use Rattle.measured.specs.Numbers.{number_of, density_of, amount_of}
use Rattle.measure.specs.Answer.{measured_as, measured_of}
use Rattle.sheet.specs.declared.Layout.{Layout}
use Rattle.refusals.specs.declared.ListRefusal.{ListRefusal}
use Rattle.measure.specs.Returned.{Returned}

-- a measurement has the number and the amount of the list's check, and a density only with the number 0
module _ (s : Sheet) (cs : List ℕ) where
  same_number : (l : Result Layout ListRefusal) → number_of (measured_as s cs l) ≡ list.number_of l
  same_number (Ok n) = refl
  same_number (Err why) = refl

  same_amount : (l : Result Layout ListRefusal) → amount_of (measured_as s cs l) ≡ list.amount_of l
  same_amount (Ok n) = refl
  same_amount (Err why) = refl

  refused-density : (l : Result Layout ListRefusal) → (list.number_of l ≡ 0 → ⊥) → density_of (measured_as s cs l) ≡ 0
  refused-density (Ok n) h = absurd (h refl)
  refused-density (Err why) h = refl

  assigned_density : (l : Result Layout ListRefusal) → list.number_of l ≡ 0 → density_of (measured_as s cs l) ≡ density s cs
  assigned_density (Ok n) e = refl
  assigned_density (Err why) e = absurd (list_number_some why e)

module _ (bytes columns : List ℕ) (r : Result ℕ ListRefusal) (answer : r ≡ measured_of bytes columns) where
  number : number_of r ≡ list.number_of (listed_of bytes columns)
  unfolding measured_of
  number = ap number_of answer ∙ same_number (sheet_of bytes) columns (listed_of bytes columns)

  amount : amount_of r ≡ list.amount_of (listed_of bytes columns)
  unfolding measured_of
  amount = ap amount_of answer ∙ same_amount (sheet_of bytes) columns (listed_of bytes columns)

  refused : (number_of r ≡ 0 → ⊥) → density_of r ≡ 0
  unfolding measured_of
  refused h =
      ap density_of answer
      ∙ refused-density (sheet_of bytes) columns (listed_of bytes columns) (λ e. h (number ∙ e))

  measures : (s : Sheet) → read bytes ≡ sound s → number_of r ≡ 0 → density_of r ≡ density s columns
  unfolding measured_of
  measures s h e =
      ap density_of answer
      ∙ assigned_density (sheet_of bytes) columns (listed_of bytes columns) (sym number ∙ e)
      ∙ ap (λ (t : Sheet). density t columns) (sym (read_checked bytes s h).1)

  -- demands 1 and 2 of one measurement
  pub one_measurement : Returned bytes columns (number_of r) (density_of r) (amount_of r)
  one_measurement =
      record {
        listed = rw (number, amount) (one_list bytes columns (listed_of bytes columns) refl);
        refused = refused;
        measures = measures;
      }
