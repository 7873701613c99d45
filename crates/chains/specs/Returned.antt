-- Document 02, T-06, of one call, in the numbers of the refusal list: of the number that it returned, and of the chain, the bound, the net
-- and the amount that came with it.
-- Assumes nothing.
use Rattle.std.specs.Prelude.{ℕ, ◌+◌, ◌≤◌, ◌<◌, ◌≡◌, ◌↔◌, max, List, ◌++◌, Bool, true, false, length, ℤ}
use Rattle.channel.specs.Sheet.{Sheet}
use Rattle.channel.specs.Density.{pins, straight_in, crosses, density}
use Rattle.soundness.specs.Read.{read}
use Rattle.soundness.specs.Read.Read.{sound}
use Rattle.relation.specs.Relation.{path}
use Rattle.constraints.specs.Constraints.{lies_over}
use Rattle.wirings.specs.Wirings.{Wired}
use Rattle.list.specs.Returned as list

-- a closed list of nets: each lies over the next, and the last over the first, net a
abbrev pub Circle : (ℕ → ℕ → Bool) → ℕ → Type 0
Circle over a = (xs : List ℕ) × (path over a xs a ≡ true)

-- an assignment of a sound sheet, where `over` says which net lies over which
pub record Decides (s : Sheet) (columns : List ℕ) (over : ℕ → ℕ → Bool) (number chain bound net : ℕ) : Type 0 where
  -- "19 .. exactly when a circle exists, with the lowest net number on one"; else 0
  pub circle : (number ≡ 19) ↔ ((a : ℕ) × Circle over a)
  pub lowest : number ≡ 19 → Circle over net × ((a : ℕ) → Circle over a → net ≤ a)
  pub other : (number ≡ 19 → ⊥) → number ≡ 0
  -- "the number of nets in the longest chain of two or more, 0 if there is none": some chain has so many nets, and none has more
  pub reached : number ≡ 0 → 0 < chain → (a : ℕ) × (xs : List ℕ) × (b : ℕ) × (path over a xs b ≡ true) × (length xs + 2 ≡ chain)
  pub longest : number ≡ 0 → (a : ℕ) (xs : List ℕ) (b : ℕ) → path over a xs b ≡ true → length xs + 2 ≤ chain
  pub none : number ≡ 0 → (chain ≡ 0) ↔ ((a b : ℕ) → over a b ≡ false)
  -- "the greater of that and the density, the lower bound of document 002": no wiring that gives each net one track has fewer tracks
  pub greater : number ≡ 0 → bound ≡ max chain (density s columns)
  pub fewest :
      number ≡ 0 → (tracks : ℕ) (track : ℕ → ℕ)
      → Wired s.columns (crosses (straight_in s) (pins (s.top ++ s.bottom) columns)) over tracks track → bound ≤ tracks

-- all of it: the number and the amount of the list's check come first; "every other answer carries net 0, and a refusal carries chain 0 and
-- bound 0"
pub record Returned (bytes columns : List ℕ) (number chain bound net : ℕ) (amount : ℤ) : Type 0 where
  pub checked : ℕ
  pub listed : list.Returned bytes columns checked amount
  pub first : (checked ≡ 0 → ⊥) → number ≡ checked
  pub decides : (s : Sheet) → read bytes ≡ sound s → checked ≡ 0 → Decides s columns (lies_over s columns) number chain bound net
  pub named : (number ≡ 19 → ⊥) → net ≡ 0
  pub refused : (number ≡ 0 → ⊥) → (chain ≡ 0) × (bound ≡ 0)
