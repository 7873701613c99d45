-- Worked examples of the left-edge method, computed from the definitions.
-- Assumes nothing.
use Rattle.std.proofs.Common.{◌≡◌, ℕ, List, Bool, true, false, [], ◌∷◌, map, refl}
use Rattle.kind.specs.Kinds.{kind_of}
use Rattle.mark.specs.declared.Mark.{Mark}
use Rattle.mark.specs.declared.Mark.TheVariants.{Cp, Cq}
use Rattle.channel.specs.Sheet.{Terminal, Sheet, sheet_with}
use Rattle.channel.specs.Density.{crosses, nets_of, column_density, density}
use Rattle.channel.specs.Spans.{leftmost, rightmost}
use Rattle.left_edge.specs.declared.Interval.{Interval}
use Rattle.left_edge.specs.declared.Span.{Span}
use Rattle.left_edge.specs.Method.{left_edge}
use Rattle.left_edge.specs.Spans.{spans_in, spans_of}

abbrev interval : ℕ → ℕ → ℕ → Bool → Interval
interval n l r b = record { net = n; left = l; right = r; counts = b }

abbrev span : ℕ → ℕ → ℕ → ℕ → Span
span n l r t = record { net = n; left = l; right = r; track = t }

-- net 2 ends in column 3, where net 4 starts: ends are inclusive. Net 5 crosses nothing
pub five_intervals :
    map (λ (x : Span). x.track)
    (left_edge (interval 1 1 4 true ∷ interval 2 1 3 true ∷ interval 4 3 5 true ∷ interval 5 4 4 false ∷ interval 3 5 6 true ∷ []))
    ≡ 1 ∷ 2 ∷ 3 ∷ 0 ∷ 1 ∷ []
five_intervals = refl

abbrev pin : ℕ → Terminal
pin n = record { net = n; least = 0; greatest = 0; allowed = 31 }

-- Plain net 7 has its leftmost pin in column 1, and net 60,001, with a pin in column 2, leaves at the left: both begin in column 1, and
-- come by their numbers. Net 9 is a straight wire. Net 62,001 leaves at the right, and counts in the column of its only pin
abbrev sheet : Mark → Sheet
sheet m = sheet_with m 5 (pin 7 ∷ pin 60001 ∷ pin 9 ∷ []) (pin 7 ∷ pin 9 ∷ pin 62001 ∷ [])

abbrev columns : List ℕ
columns = 1 ∷ 2 ∷ 4 ∷ 3 ∷ 4 ∷ 5 ∷ []

pub sheet-spans : spans_of (sheet Cp) columns ≡ span 7 1 3 1 ∷ span 60001 1 2 2 ∷ span 9 4 4 0 ∷ span 62001 5 5 1 ∷ []
unfolding kind_of crosses leftmost rightmost spans_in
sheet-spans = refl

-- where straight wires count, net 9 takes a track
pub counted-spans : spans_of (sheet Cq) columns ≡ span 7 1 3 1 ∷ span 60001 1 2 2 ∷ span 9 4 4 1 ∷ span 62001 5 5 1 ∷ []
unfolding kind_of crosses leftmost rightmost spans_in
counted-spans = refl

-- column 4 has net 9 alone, and so the density is the same under either mark
pub sheet-density : (m : Mark) → density (sheet m) columns ≡ 2
unfolding kind_of crosses nets_of column_density density
sheet-density Cp = refl
sheet-density Cq = refl

-- net 64,001 leaves at both ends, and so shares every column with all; net 60,001 ends in column 1, where net 60,002 begins
pub leaving-spans :
    spans_of (sheet_with Cp 5 (pin 60001 ∷ pin 60002 ∷ []) (pin 64001 ∷ [])) (1 ∷ 2 ∷ 4 ∷ [])
    ≡ span 60001 1 1 1 ∷ span 60002 1 2 2 ∷ span 64001 1 5 3 ∷ []
unfolding kind_of crosses leftmost rightmost spans_in
leaving-spans = refl
