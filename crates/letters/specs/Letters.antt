-- What a letter of the walk does: 0 is the empty column's, 1 that of a top pin alone, 2 that of a bottom pin alone, 3 that of both.
-- Assumes nothing.
use Rattle.std.specs.Prelude.{ℕ, ◌+◌, ◌-◌, List, Bool, cond, ◌&&◌, ◌||◌, ◌≡◌, set, ltb, eqb}
use Rattle.letters.specs.declared.Letter.{Letter}
use Rattle.letters.specs.declared.Letter.TheVariants.{Empty, Top, Bottom, Both}
use Rattle.letters.specs.declared.Progress.{Progress}

-- the number of a letter in the rules' word
abbrev pub letter_number : Letter → ℕ
letter_number Empty = 0
letter_number Top = 1
letter_number Bottom = 2
letter_number Both = 3

-- a letter has a pin of a side, whose own letter is that of its pin alone, if one of n is left; a pin that is not there is not placed
abbrev pub has_pin : ℕ → ℕ → ℕ → Bool
has_pin own letter n = ltb 0 n && (eqb letter own || eqb letter 3)

abbrev pub has_top_pin : ℕ → ℕ → Bool
has_top_pin letter i = has_pin 1 letter i

abbrev pub has_bottom_pin : ℕ → ℕ → Bool
has_bottom_pin letter j = has_pin 2 letter j

-- the walk goes on behind a letter
abbrev pub behind : ℕ → Progress → Progress
behind letter m =
    record {
      c = m.c - 1;
      i = cond (has_top_pin letter m.i) (m.i - 1) m.i;
      j = cond (has_bottom_pin letter m.j) (m.j - 1) m.j;
      top = cond (has_top_pin letter m.i) m.c m.top;
      bottom = cond (has_bottom_pin letter m.j) m.c m.bottom;
    }

-- the columns that a letter writes
abbrev pub written : ℕ → ℕ → Progress → List ℕ → List ℕ
written p letter m columns =
    let tops : List ℕ = cond (has_top_pin letter m.i) (set columns (m.i - 1) m.c) columns in
    cond (has_bottom_pin letter m.j) (set tops (p + (m.j - 1)) m.c) tops

-- two numbers that place the same pins
pub record SameLetter (one other : ℕ) : Type 0 where
  pub top : (i : ℕ) → has_top_pin one i ≡ has_top_pin other i
  pub bottom : (j : ℕ) → has_bottom_pin one j ≡ has_bottom_pin other j
