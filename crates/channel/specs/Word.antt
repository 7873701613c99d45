-- The word of an assignment, and the order of words (document 01, "Ties").
-- Assumes nothing.
use Rattle.std.specs.Prelude.{ℕ, zero, suc, List, [], ◌∷◌, ◌++◌, map, Bool, true, false, cond, ◌&&◌, ◌||◌, length, ltb, eqb}
use Rattle.channel.specs.Sheet.{Sheet}
use Rattle.channel.specs.Assignment.{top_columns, bottom_columns}
use Rattle.channel.specs.Density.{any}

-- "0 empty, 1 top pin only, 2 bottom pin only, 3 both"
pub data Letter : Type 0 where
  empty top bottom both : Letter

abbrev pub rank : Letter → ℕ
rank empty = 0
rank top = 1
rank bottom = 2
rank both = 3

abbrev pub has_top : Letter → Bool
has_top empty = false
has_top top = true
has_top bottom = false
has_top both = true

abbrev pub has_bottom : Letter → Bool
has_bottom empty = false
has_bottom top = false
has_bottom bottom = true
has_bottom both = true

abbrev pub letter : Bool → Bool → Letter
letter false false = empty
letter true false = top
letter false true = bottom
letter true true = both

-- "L letters, from column L down to column 1": the letter of column l stands first
abbrev pub word_of : ℕ → List ℕ → List ℕ → List Letter
word_of zero tops bottoms = []
word_of (suc l) tops bottoms = letter (any (eqb (suc l)) tops) (any (eqb (suc l)) bottoms) ∷ word_of l tops bottoms

-- the word of a column list
unfoldable pub word : Sheet → List ℕ → List Letter
word s cs = word_of s.columns (top_columns s cs) (bottom_columns s cs)

-- the way back: the columns, from the left, whose letters f holds of
abbrev pub columns_with : (Letter → Bool) → List Letter → List ℕ
columns_with f [] = []
columns_with f (a ∷ w) = columns_with f w ++ cond (f a) (suc (length w) ∷ []) []

-- a word's column list, top then bottom
unfoldable pub columns_of : List Letter → List ℕ
columns_of w = columns_with has_top w ++ columns_with has_bottom w

-- "the smallest word in dictionary order": v is w, or comes before it
abbrev pub no_later : List Letter → List Letter → Bool
no_later [] w = true
no_later (a ∷ v) [] = false
no_later (a ∷ v) (b ∷ w) = ltb (rank a) (rank b) || (eqb (rank a) (rank b) && no_later v w)

-- every word of l letters, in dictionary order
unfoldable pub words : ℕ → List (List Letter)
words zero = [] ∷ []
words (suc l) =
    map (λ w. empty ∷ w) (words l)
    ++ map (λ w. top ∷ w) (words l)
    ++ map (λ w. bottom ∷ w) (words l)
    ++ map (λ w. both ∷ w) (words l)
