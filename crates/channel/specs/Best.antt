-- The best assignment of a sheet, or none, and what makes it the best (document 01, "Column, crossing, density" and "Ties").
-- Assumes nothing.
use Rattle.std.specs.Prelude.{ℕ, ◌≤◌, ◌≡◌, List, [], ◌∷◌, true, false, cond, leb}
use Rattle.channel.specs.Sheet.{Sheet}
use Rattle.channel.specs.Assignment.{fits, is_assignment}
use Rattle.channel.specs.Density.{density}
use Rattle.channel.specs.Word.{Letter, has_top, has_bottom, columns_with, columns_of, word, words, no_later}

-- a least density with the column list that has it, or none
pub data Found : Type 0 where
  none : Found
  found : ℕ → List ℕ → Found

-- of two, the one with less density; the earlier wins a tie
abbrev pub better : ℕ → List ℕ → Found → Found
better d cs none = found d cs
better d cs (found e es) = cond (leb d e) (found d cs) (found e es)

-- of those words whose columns are an assignment, the first whose density is least
unfoldable pub best_of : Sheet → List (List Letter) → Found
best_of s [] = none
best_of s (w ∷ ws) =
    elim (fits s (columns_with has_top w) (columns_with has_bottom w)) [
      | true ↦ better (density s (columns_of w)) (columns_of w) (best_of s ws)
      | false ↦ best_of s ws
    ]

unfoldable pub best : Sheet → Found
best s = best_of s (words s.columns)

-- Demand 2 of one column list: it is an assignment with density d, no assignment has less, and of those with as little
-- its word is the smallest
pub record IsBest (s : Sheet) (d : ℕ) (cs : List ℕ) : Type 0 where
  pub assignment : is_assignment s cs ≡ true
  pub exact : density s cs ≡ d
  pub least : (es : List ℕ) → is_assignment s es ≡ true → d ≤ density s es
  pub smallest : (es : List ℕ) → is_assignment s es ≡ true → density s es ≡ d → no_later (word s cs) (word s es) ≡ true

-- Demand 2 of the best: it is one in this sense, or there is no assignment at all
abbrev pub Answers : Sheet → Found → Type 0
Answers s none = (es : List ℕ) → is_assignment s es ≡ false
Answers s (found d cs) = IsBest s d cs
