-- How far a net reaches, and a column's density as a loop over the terminals counts it (document 01, "Column, crossing, density";
-- document 02, T-03 and T-07).
-- Assumes nothing.
use Rattle.std.specs.Prelude.{ℕ, ◌+◌, min, max, List, [], ◌∷◌, Bool, cond, ◌&&◌, leb, ltb, eqb}
use Rattle.kind.specs.Kinds.{kind_of, left_start, right_start}
use Rattle.channel.specs.Density.{any, Pin, crossing, weight}

-- the columns of net n's pins, in their order
abbrev pub net_columns : ℕ → List Pin → List ℕ
net_columns n [] = []
net_columns n (p ∷ ps) = cond (eqb p.net n) (p.column ∷ net_columns n ps) (net_columns n ps)

-- one end of net n, as a loop over the pins finds it: at each pin of n, pick one of the column so far and the pin's
abbrev pub end_from : (ℕ → ℕ → ℕ) → ℕ → ℕ → List Pin → ℕ
end_from pick start n [] = start
end_from pick start n (p ∷ ps) = end_from pick (cond (eqb p.net n) (pick start p.column) start) n ps

-- the columns of net n's leftmost and rightmost pins, where no column is above 254; 0 and 255 where it leaves by that end
unfoldable pub leftmost : ℕ → List Pin → ℕ
leftmost n ps = end_from min (left_start (kind_of n)) n ps

unfoldable pub rightmost : ℕ → List Pin → ℕ
rightmost n ps = end_from max (right_start (kind_of n)) n ps

-- column c is one of the columns l to r
abbrev pub within : ℕ → ℕ → ℕ → Bool
within l r c = leb l c && leb c r

-- a net that reaches from l to r crosses column c: its ends tell what is left of c and right of c, and where nothing is on one of the two
-- sides, an end stands in c if c is one of the columns l to r
abbrev pub spans : Bool → ℕ → ℕ → ℕ → Bool
spans counted l r c = crossing counted (ltb l c) (within l r c) (ltb c r)

-- it crosses some column: then it crosses its left end
abbrev pub counts : Bool → ℕ → ℕ → Bool
counts counted l r = spans counted l r l

-- the weights of those nets of a list of which f holds, each counted where it occurs last
abbrev pub sum_last : (ℕ → Bool) → List ℕ → ℕ
sum_last f [] = 0
sum_last f (n ∷ ns) = cond (any (eqb n) ns) 0 (cond (f n) (weight n) 0) + sum_last f ns
