-- The word that the search returns: from column L down, the smallest letter after which the rest can still be placed (document 01, "Ties").
-- Of a walk that has come down to column c: i and j are the pins still to be placed in columns 1 to c, and x and y the columns
-- of the pins placed last, the ones after those; 0 where none is placed yet.
-- Assumes nothing.
use Rattle.std.specs.Prelude.{ℕ, zero, suc, List, [], ◌∷◌, Bool, true, false, cond, ◌&&◌, ◌||◌, length, eqb}
use Rattle.channel.specs.Below.{any_below}
use Rattle.channel.specs.Sheet.{Terminal, Sheet}
use Rattle.channel.specs.Word.{Letter, has_top, has_bottom}
use Rattle.channel.specs.Word.Letter.{empty, top, bottom, both}
use Rattle.channel.specs.Cut.{before}
use Rattle.reach.specs.Reach.{near, reach}

-- pin i of a side may stand in u, where the next one stands in x; after the last there is no next one
abbrev pub next : List Terminal → ℕ → ℕ → ℕ → Bool
next ts i u x = eqb i (length ts) || near ts (suc i) u x

-- f holds of the column c + 1 if h says that a pin stands there, and else of some column up to c, or of 0
abbrev pub last_at : Bool → ℕ → (ℕ → Bool) → Bool
last_at true c f = f (suc c)
last_at false c f = any_below (suc c) f

-- the smallest letter of which its test holds: the tests of empty, top and bottom are given, and else it is both
abbrev pub smallest_of : Bool → Bool → Bool → Letter
smallest_of true t b = empty
smallest_of false true b = top
smallest_of false false true = bottom
smallest_of false false false = both

module _ (s : Sheet) (d : ℕ) where
  -- with this letter in column c + 1, the i and j pins can be placed in the columns 1 to c + 1
  unfoldable pub letter_fits : ℕ → ℕ → ℕ → ℕ → ℕ → Letter → Bool
  letter_fits c i j x y a =
      last_at (has_top a) c
      (λ (u : ℕ). last_at (has_bottom a) c (λ (v : ℕ). reach s d i j u v && (next s.top i u x && next s.bottom j v y)))

  -- the smallest letter for column c + 1
  unfoldable pub choice : ℕ → ℕ → ℕ → ℕ → ℕ → Letter
  choice c i j x y = smallest_of (letter_fits c i j x y empty) (letter_fits c i j x y top) (letter_fits c i j x y bottom)

  -- the letters of the columns c down to 1
  unfoldable pub walk_word_from : ℕ → ℕ → ℕ → ℕ → ℕ → List Letter
  walk_word_from zero i j x y = []
  walk_word_from (suc c) i j x y =
      let a : Letter = choice c i j x y in
      a ∷ walk_word_from c (before (has_top a) i) (before (has_bottom a) j) (cond (has_top a) (suc c) x) (cond (has_bottom a) (suc c) y)

  -- the word of the whole channel
  unfoldable pub walk_word : List Letter
  walk_word = walk_word_from s.columns (length s.top) (length s.bottom) 0 0
