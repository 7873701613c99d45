-- The marks of sheets (document 01, "The sheet"; document 02, T-07).
-- Assumes nothing.
use Rattle.std.specs.Prelude.{ℕ, List, [], ◌∷◌, Bool, true, false}
use Rattle.mark.specs.declared.Mark.{Mark}
use Rattle.mark.specs.declared.Mark.TheVariants.{Cp, Cq}

-- "the letters CP", and "Its sheets end in CQ"
abbrev pub letters : Mark → List ℕ
letters Cp = 67 ∷ 80 ∷ []
letters Cq = 67 ∷ 81 ∷ []

-- whether a straight wire, "a net whose two pins share a column", counts in that column: on CQ sheets, and "CP sheets keep their rule"
abbrev pub counts_straight : Mark → Bool
counts_straight Cp = false
counts_straight Cq = true
