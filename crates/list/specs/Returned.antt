-- Demands 1 and 2 of the check of one column list, in the numbers of document 01's refusal list: of the number of its answer, 0 for an
-- assignment, and of the amount that comes with it.
-- Assumes nothing.
use Rattle.std.specs.Prelude.{ℕ, ◌+◌, ◌≡◌, List, true, false, length, ℤ, pos, Result, Ok, Err}
use Rattle.channel.specs.Sheet.{Sheet}
use Rattle.channel.specs.Assignment.{is_assignment}
use Rattle.refusals.specs.Lists.{list_number, list_amount}
use Rattle.soundness.specs.Read.{read}
use Rattle.soundness.specs.Read.Read.{sound, refused}
use Rattle.sheet.specs.declared.Layout.{Layout}
use Rattle.refusals.specs.declared.ListRefusal.{ListRefusal}
use Rattle.list.specs.Answer.{all_allowed, first_amount}

-- the number of an answer, and its amount
abbrev pub number_of : Result Layout ListRefusal → ℕ
number_of (Ok n) = 0
number_of (Err why) = list_number why

abbrev pub amount_of : Result Layout ListRefusal → ℤ
amount_of (Ok n) = pos 0
amount_of (Err why) = list_amount why

-- "a list to measure is .. p+q long"
abbrev pub Long : Sheet → List ℕ → Type 0
Long s columns = length columns ≡ length s.top + length s.bottom

-- answered with number n and amount a
abbrev pub Answers : ℕ → ℤ → ℕ → ℤ → Type 0
Answers n a number amount = (number ≡ n) × (amount ≡ a)

-- a sound sheet: 12, 13, 14, each the first that applies, and 14 with the amount of the first bad pair; else the list is an assignment,
-- and only then
pub record Decides (s : Sheet) (columns : List ℕ) (number : ℕ) (amount : ℤ) : Type 0 where
  pub other : (Long s columns → ⊥) → Answers 12 (pos 0) number amount
  pub beyond : Long s columns → all_allowed s columns ≡ false → Answers 13 (pos 0) number amount
  pub apart :
      Long s columns → all_allowed s columns ≡ true → (first_amount s columns ≡ pos 0 → ⊥) → Answers 14 (first_amount s columns) number amount
  pub passes : is_assignment s columns ≡ true → Answers 0 (pos 0) number amount
  pub only : number ≡ 0 → is_assignment s columns ≡ true

-- all of it: 1 to 8 as they are read come first
pub record Returned (bytes columns : List ℕ) (number : ℕ) (amount : ℤ) : Type 0 where
  pub unsound : (n : ℕ) → read bytes ≡ refused n → Answers n (pos 0) number amount
  pub decides : (s : Sheet) → read bytes ≡ sound s → Decides s columns number amount
