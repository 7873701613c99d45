-- The pins of a list of nets and their columns, and how far a net reaches.
-- Assumes nothing.
use Rattle.std.specs.Prelude.{ℕ, List, [], ◌∷◌}
use Rattle.channel.specs.Density.{Pin}
use Rattle.channel.specs.Spans.{leftmost, rightmost}
use Rattle.ends.specs.declared.Ends.{Ends}

-- the pins of a list of nets and their columns
abbrev pub pins_of : List ℕ → List ℕ → List Pin
pins_of [] cs = []
pins_of (n ∷ ns) [] = []
pins_of (n ∷ ns) (c ∷ cs) = record { net = n; column = c } ∷ pins_of ns cs

-- how far net n reaches
abbrev pub ends_of : ℕ → List Pin → Ends
ends_of n ps = record { left = leftmost n ps; right = rightmost n ps }
