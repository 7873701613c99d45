-- What the program prints of its input (document 01, "The program" and "The refusal list").
-- Assumes nothing.
use Rattle.std.specs.Prelude.{ℕ, ◌≡◌, List, [], ◌∷◌, ◌++◌, cond, length, drop, ltb, Result, Ok, Err}
use Rattle.channel.specs.Sheet.{Sheet}
use Rattle.channel.specs.Best.{Found, best}
use Rattle.channel.specs.Best.Found.{none, found}
use Rattle.soundness.specs.Read.{sheet_of}
use Rattle.cursor.specs.Visits.{all_visits}
use Rattle.searched.specs.declared.SearchRefusal.{SearchRefusal}
use Rattle.searched.specs.Numbers.{search_number}
use Rattle.search.specs.Answer.{searched_of}
use Rattle.lines.specs.Text.{field, newline, lines}

-- the names: "density ", "refused "
abbrev pub density_name : List ℕ
density_name = 100 ∷ 101 ∷ 110 ∷ 115 ∷ 105 ∷ 116 ∷ 121 ∷ 32 ∷ []

abbrev pub refused_name : List ℕ
refused_name = 114 ∷ 101 ∷ 102 ∷ 117 ∷ 115 ∷ 101 ∷ 100 ∷ 32 ∷ []

-- "the single line `refused N`"
abbrev pub refusal : ℕ → List ℕ
refusal n = field refused_name n ++ newline

-- the density, then a line for each terminal, top then bottom
abbrev pub headed : ℕ → List ℕ → List ℕ
headed d rest = field density_name d ++ (newline ++ rest)

abbrev pub result : Sheet → Found → List ℕ
result s none = refusal 11
result s (found d cs) = headed d (lines (all_visits s) cs)

-- the text of a search's answer
abbrev pub answered : Result ℕ SearchRefusal → Sheet → List ℕ
answered (Ok d) s = result s (best s)
answered (Err why) s = refusal (search_number why)

-- "lends 30,000 work cells", and a column byte for each of at most 128 terminals
unfoldable pub search_text : List ℕ → List ℕ
search_text input = answered (searched_of input 128 30000) (sheet_of input)

-- "15 comes before all": an input above 1,548 bytes
unfoldable pub printed : List ℕ → List ℕ
printed input = cond (ltb 1548 (length input)) (refusal 15) (search_text input)

-- the promise: the text at the start of the buffer, the rest unchanged, and the text's length
pub record Prints (input old new : List ℕ) (n : ℕ) : Type 0 where
  pub text : new ≡ printed input ++ drop (length (printed input)) old
  pub size : n ≡ length (printed input)
