-- What a word says of a channel's load: how many pins of each side stand at or left of a column, and how many nets cross it then.
-- A word is written from column L down to column 1, so a word's tail is the part of the channel left of its first letter.
-- Assumes nothing.
use Rattle.std.specs.Prelude.{ℕ, suc, pred, max, List, [], ◌∷◌, ◌++◌, Bool, cond, ◌||◌, take, drop, eqb}
use Rattle.kind.specs.Kinds.{kind_of}
use Rattle.channel.specs.Sheet.{Sheet, nets}
use Rattle.channel.specs.Density.{any, straight_in, crossing_of, weight_of, nets_of}
use Rattle.channel.specs.Word.{Letter, has_top, has_bottom}

-- how many letters of a word f holds of: with has_top, its top pins
abbrev pub count : (Letter → Bool) → List Letter → ℕ
count f [] = 0
count f (a ∷ w) = cond (f a) (suc (count f w)) (count f w)

-- net n is one of ns
abbrev pub has : ℕ → List ℕ → Bool
has n = any (λ (k : ℕ). eqb k n)

-- Of one side, i terminals stand at or left of a column; h says whether the last of them stands in it.
-- How many stand left of it
abbrev pub before : Bool → ℕ → ℕ
before h i = cond h (pred i) i

-- the three stretches of the side: left of the column, in it, right of it
abbrev pub left_of : {A : Type 0} → Bool → ℕ → List A → List A
left_of h i ts = take (before h i) ts

abbrev pub here_of : {A : Type 0} → Bool → ℕ → List A → List A
here_of h i ts = cond h (take 1 (drop (before h i) ts)) []

abbrev pub right_of : {A : Type 0} → ℕ → List A → List A
right_of i ts = drop i ts

-- the nets of both sides, where the column holds letter a and has i top and j bottom pins at or left of it
abbrev pub left_nets : Sheet → Letter → ℕ → ℕ → List ℕ
left_nets s a i j = left_of (has_top a) i (nets s.top) ++ left_of (has_bottom a) j (nets s.bottom)

abbrev pub here_nets : Sheet → Letter → ℕ → ℕ → List ℕ
here_nets s a i j = here_of (has_top a) i (nets s.top) ++ here_of (has_bottom a) j (nets s.bottom)

abbrev pub right_nets : Sheet → ℕ → ℕ → List ℕ
right_nets s i j = right_of i (nets s.top) ++ right_of j (nets s.bottom)

-- a net crosses a column with these nets left of it, in it and right of it, where f says which are straight wires that count
abbrev pub crosses_cut : (ℕ → Bool) → ℕ → List ℕ → List ℕ → List ℕ → Bool
crosses_cut f n left here right = crossing_of (kind_of n) (f n) (has n left) (has n here) (has n right)

-- the load of that column: the weights of the nets that cross it
unfoldable pub load : Sheet → Letter → ℕ → ℕ → ℕ
load s a i j =
    weight_of (λ (n : ℕ). crosses_cut (straight_in s) n (left_nets s a i j) (here_nets s a i j) (right_nets s i j)) (nets_of s)

-- a column with a pin in it
abbrev pub occupied : Letter → Bool
occupied a = has_top a || has_bottom a

-- the load of the column of a word's first letter
abbrev pub first_load : Sheet → Letter → List Letter → ℕ
first_load s a w = load s a (count has_top (a ∷ w)) (count has_bottom (a ∷ w))

-- the greatest load of a word's occupied columns
abbrev pub word_load : Sheet → List Letter → ℕ
word_load s [] = 0
word_load s (a ∷ w) = max (cond (occupied a) (first_load s a w) 0) (word_load s w)
