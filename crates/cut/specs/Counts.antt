-- How many nets are cut, and the load of a column from the nets of the two sides.
-- Assumes nothing.
use Rattle.std.specs.Prelude.{ℕ, List, ◌++◌, Bool, ◌&&◌, ◌||◌, leb}
use Rattle.mark.specs.declared.Mark.{Mark}
use Rattle.channel.specs.Density.{straight, weight_of, distinct}
use Rattle.channel.specs.Cut.{left_of, here_of, right_of, crosses_cut}
use Rattle.channel.specs.Word.{Letter, has_top, has_bottom}
use Rattle.places.specs.Places.{comes, goes_on}
use Rattle.places.specs.declared.PinPlaces.{PinPlaces}

-- the nets that are cut between the first i top and j bottom pins and the others: they have come before and go on there
unfoldable pub cut : List ℕ → List ℕ → ℕ → ℕ → ℕ
cut tops bottoms i j = weight_of (λ (n : ℕ). comes tops bottoms i j n && goes_on tops bottoms i j n) (distinct (tops ++ bottoms))

-- the pin's net counts in the pin's column and not right of it: it is a straight wire that counts, or it has come before the column, and it
-- does not go on behind it; of the other side's pins `before` stand left of the column and `behind` at or left of it
abbrev pub ends_here : PinPlaces → ℕ → ℕ → Bool
ends_here pin before behind = (pin.straight || leb pin.opens before) && leb pin.closes behind

-- the load of a column, as channel's `load` has it, from the mark and the nets of the two sides alone
unfoldable pub load_of : Mark → List ℕ → List ℕ → Letter → ℕ → ℕ → ℕ
load_of m tops bottoms a i j =
    weight_of
    (λ (n : ℕ). crosses_cut (straight m (tops ++ bottoms)) n (left_of (has_top a) i tops ++ left_of (has_bottom a) j bottoms)
    (here_of (has_top a) i tops ++ here_of (has_bottom a) j bottoms) (right_of i tops ++ right_of j bottoms))
    (distinct (tops ++ bottoms))
