-- How many nets cross a column, and the density of a column list (document 01, "Column, crossing, density"; document 02, T-03 and T-07;
-- document 003, section 4.1).
-- Assumes nothing.
use Rattle.std.specs.Prelude.{ℕ, zero, suc, ◌+◌, max, List, [], ◌∷◌, ◌++◌, Bool, false, cond, ◌&&◌, ◌||◌, ltb, eqb}
use Rattle.kind.specs.declared.Kind.{Kind}
use Rattle.kind.specs.Kinds.{kind_of, leaves_left, leaves_right}
use Rattle.mark.specs.declared.Mark.{Mark}
use Rattle.mark.specs.Marks.{counts_straight}
use Rattle.channel.specs.Sheet.{Terminal, Sheet, all_nets}

abbrev pub any {ℓ} : {A : Type ℓ} → (A → Bool) → List A → Bool
any f [] = false
any f (x ∷ xs) = f x || any f xs

-- a terminal that stands in a column
pub record Pin : Type 0 where
  pub net : ℕ
  pub column : ℕ

abbrev pub pins : List Terminal → List ℕ → List Pin
pins [] cs = []
pins (t ∷ ts) [] = []
pins (t ∷ ts) (c ∷ cs) = record { net = t.net; column = c } ∷ pins ts cs

-- some pin of net n stands in a column of which f holds
abbrev pub some_pin : (ℕ → Bool) → ℕ → List Pin → Bool
some_pin f n = any (λ (p : Pin). eqb p.net n && f p.column)

-- how many pins net n has, from the nets of all terminals
abbrev pub pin_count : ℕ → List ℕ → ℕ
pin_count n [] = 0
pin_count n (m ∷ ms) = cond (eqb m n) (suc (pin_count n ms)) (pin_count n ms)

-- "a net whose two pins share a column" counts in that column where the mark says so: net n has two pins, and may be such a straight wire.
-- It is asked how many terminals a net has, and not how many pins stand in a column: three never share one
abbrev pub straight : Mark → List ℕ → ℕ → Bool
straight m ns n = counts_straight m && eqb (pin_count n ns) 2

-- of a sheet
abbrev pub straight_in : Sheet → ℕ → Bool
straight_in s = straight s.mark (all_nets s)

-- The one rule of counting. A net that reaches left of a column, stands in it and reaches right of it, or not, crosses the column: "its
-- leftmost pin is at or left of c, its rightmost at or right of c, and some pin is not in c"; and a straight wire that counts crosses the
-- column of its pins
abbrev pub crossing : Bool → Bool → Bool → Bool → Bool
crossing counted left here right = (left || here) && ((here || right) && (counted || (left || right)))

-- The same of a net of kind k that has pins left of the column, in it and right of it, or not. "A leaving net reaches column 1, column L or
-- both, and counts even in a column holding all its pins": at an end by which it leaves, it reaches past every column
abbrev pub crossing_of : Kind → Bool → Bool → Bool → Bool → Bool
crossing_of k counted left here right = crossing counted (leaves_left k || left) here (leaves_right k || right)

-- "A net crosses column c when ..", where f says which nets are straight wires that count
unfoldable pub crosses : (ℕ → Bool) → List Pin → ℕ → ℕ → Bool
crosses f ps n c =
    crossing_of (kind_of n) (f n) (some_pin (λ (k : ℕ). ltb k c) n ps) (some_pin (λ (k : ℕ). eqb k c) n ps)
    (some_pin (λ (k : ℕ). ltb c k) n ps)

abbrev pub distinct : List ℕ → List ℕ
distinct [] = []
distinct (n ∷ ns) = cond (any (eqb n) ns) (distinct ns) (n ∷ distinct ns)

-- a sheet's nets, each once: these alone are counted, and each has a pin
unfoldable pub nets_of : Sheet → List ℕ
nets_of s = distinct (all_nets s)

-- the tracks that a net takes in a column that it crosses
abbrev pub weight : ℕ → ℕ
weight n = 1

-- the weights of those nets of a list of which f holds
abbrev pub weight_of : (ℕ → Bool) → List ℕ → ℕ
weight_of f [] = 0
weight_of f (n ∷ ns) = cond (f n) (weight n) 0 + weight_of f ns

-- "Each net counts once in a column, however many pins it has"
unfoldable pub column_density : Sheet → List ℕ → ℕ → ℕ
column_density s cs c = weight_of (λ (n : ℕ). crosses (straight_in s) (pins (s.top ++ s.bottom) cs) n c) (nets_of s)

abbrev pub maximum_to : ℕ → (ℕ → ℕ) → ℕ
maximum_to zero f = 0
maximum_to (suc k) f = max (f (suc k)) (maximum_to k f)

-- "Density is the maximum over columns 1 to L, and 0 with no terminals"
unfoldable pub density : Sheet → List ℕ → ℕ
density s cs = maximum_to s.columns (column_density s cs)

-- no density is above this: a sheet has at most 128 terminals, and so at most 128 nets, each of which counts once in a column
abbrev pub most_density : ℕ
most_density = 128
