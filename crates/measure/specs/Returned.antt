-- Demands 1 and 2 of one measurement, in the numbers of document 01's refusal list: of the number that it returned, 0 with a density, and
-- of the density d and the amount that came with it.
-- Assumes nothing.
use Rattle.std.specs.Prelude.{ℕ, ◌≡◌, List, ℤ}
use Rattle.channel.specs.Sheet.{Sheet}
use Rattle.channel.specs.Density.{density}
use Rattle.soundness.specs.Read.{read}
use Rattle.soundness.specs.Read.Read.{sound}
use Rattle.list.specs.Returned as list

-- the number and the amount are those of the list's check; "Each refusal carries density 0"; without one the density is the definition's
pub record Returned (bytes columns : List ℕ) (number d : ℕ) (amount : ℤ) : Type 0 where
  pub listed : list.Returned bytes columns number amount
  pub refused : (number ≡ 0 → ⊥) → d ≡ 0
  pub measures : (s : Sheet) → read bytes ≡ sound s → number ≡ 0 → d ≡ density s columns
