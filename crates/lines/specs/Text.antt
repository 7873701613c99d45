-- The lines of the program's text, in ASCII (document 01, "The program").
-- Assumes nothing.
use Rattle.std.specs.Prelude.{ℕ, List, [], ◌∷◌, ◌++◌}
use Rattle.channel.specs.declared.Side.{Side}
use Rattle.channel.specs.declared.Side.TheVariants.{Top, Bottom}
use Rattle.cursor.specs.declared.Visit.{Visit}
use Rattle.text.specs.Digits as text

-- a name and its number: none that is printed has more than five digits, since nets have 16 bits
abbrev pub field : List ℕ → ℕ → List ℕ
field name n = text.field 5 name n

abbrev pub newline : List ℕ
newline = 10 ∷ []

-- the names: " ", " net ", " col "
abbrev pub space_name : List ℕ
space_name = 32 ∷ []

abbrev pub net_name : List ℕ
net_name = 32 ∷ 110 ∷ 101 ∷ 116 ∷ 32 ∷ []

abbrev pub col_name : List ℕ
col_name = 32 ∷ 99 ∷ 111 ∷ 108 ∷ 32 ∷ []

-- the letters T and B
abbrev pub letter_of : Side → ℕ
letter_of Top = 84
letter_of Bottom = 66

-- "side, place in that side's order from 1, net, column"
unfoldable pub line : Visit → ℕ → List ℕ
line v c = letter_of v.side ∷ (field space_name v.place ++ (field net_name v.terminal.net ++ (field col_name c ++ newline)))

-- a line for each terminal and its column
abbrev pub lines : List Visit → List ℕ → List ℕ
lines [] cs = []
lines (v ∷ vs) [] = []
lines (v ∷ vs) (c ∷ cs) = line v c ++ lines vs cs
