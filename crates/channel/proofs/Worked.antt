-- Two sheets of docs/FORMAT.md, sheet A under either mark and the one with a net of each kind, computed from the definitions.
-- Assumes nothing.
use Rattle.std.proofs.Common.{◌≡◌, ℕ, List, [], ◌∷◌, map, refl}
use Rattle.kind.specs.Kinds.{kind_of}
use Rattle.mark.specs.declared.Mark.{Mark}
use Rattle.mark.specs.declared.Mark.TheVariants.{Cp, Cq}
use Rattle.channel.specs.Sheet.{Terminal, Sheet, sheet_with}
use Rattle.channel.specs.Assignment.{fits}
use Rattle.channel.specs.Density.{crosses, nets_of, column_density, density}
use Rattle.channel.specs.Word.{word, columns_of, words}
use Rattle.channel.specs.Best.{best_of, best}
use Rattle.channel.specs.Best.Found.{found}

-- the first terminal of a side and a later one, with this set
abbrev first : ℕ → ℕ → Terminal
first set n = record { net = n; least = 0; greatest = 0; allowed = set }

abbrev later : ℕ → ℕ → Terminal
later set n = record { net = n; least = 1; greatest = 255; allowed = set }

-- sheet A
abbrev sheet_a : Mark → Sheet
sheet_a m = sheet_with m 3 (first 7 1 ∷ later 7 2 ∷ []) (first 7 2 ∷ later 7 1 ∷ [])

-- its best assignment: under CP net 1 is a straight wire; under CQ such a wire counts, and no assignment has less density than 2
pub best_a-columns : (best (sheet_a Cp) ≡ found 1 (2 ∷ 3 ∷ 1 ∷ 2 ∷ [])) × (best (sheet_a Cq) ≡ found 2 (1 ∷ 2 ∷ 1 ∷ 2 ∷ []))
unfolding fits kind_of crosses nets_of column_density density word columns_of words best_of best
best_a-columns = (refl, refl)

-- the densities of the columns 1 to 3
abbrev densities_a : Mark → List ℕ → List ℕ
densities_a m cs = map (column_density (sheet_a m) cs) (1 ∷ 2 ∷ 3 ∷ [])

pub straight-densities :
    (densities_a Cp (2 ∷ 3 ∷ 1 ∷ 2 ∷ []) ≡ 1 ∷ 1 ∷ 1 ∷ []) × (densities_a Cq (2 ∷ 3 ∷ 1 ∷ 2 ∷ []) ≡ 1 ∷ 2 ∷ 1 ∷ [])
unfolding kind_of crosses nets_of column_density
straight-densities = (refl, refl)

-- the sheet with a net of each kind
abbrev sheet : Sheet
sheet = sheet_with Cp 4 (first 15 60001 ∷ later 15 7 ∷ later 15 64001 ∷ []) (first 15 7 ∷ later 15 62001 ∷ [])

-- its best assignment, and the densities of the columns; net 7 is a straight wire
pub best-columns : best sheet ≡ found 2 (1 ∷ 2 ∷ 3 ∷ 2 ∷ 3 ∷ [])
unfolding fits kind_of crosses nets_of column_density density word columns_of words best_of best
best-columns = refl

abbrev densities : List ℕ → List ℕ
densities cs = map (column_density sheet cs) (1 ∷ 2 ∷ 3 ∷ 4 ∷ [])

pub best-densities : densities (1 ∷ 2 ∷ 3 ∷ 2 ∷ 3 ∷ []) ≡ 2 ∷ 1 ∷ 2 ∷ 2 ∷ []
unfolding kind_of crosses nets_of column_density
best-densities = refl

-- and those of another
pub other_densities : densities (2 ∷ 3 ∷ 4 ∷ 1 ∷ 2 ∷ []) ≡ 3 ∷ 4 ∷ 3 ∷ 2 ∷ []
unfolding kind_of crosses nets_of column_density
other_densities = refl
