-- The sheet whose allowed sets are those of a table of rules, and what clipping does of a sheet.
-- Assumes nothing.
use Rattle.std.specs.Prelude.{ℕ, suc, ◌*◌, ◌^◌, ◌≡◌, List, [], ◌∷◌, Bool, true, false, length}
use Rattle.channel.specs.Sheet.{Terminal, Sheet, Sound, sheet_with}
use Rattle.channel.specs.Assignment.{is_assignment}
use Rattle.channel.specs.Density.{density, most_density}
use Rattle.channel.specs.Word.{Letter}
use Rattle.channel.specs.Cut.{load}
use Rattle.channel.specs.Best.{best}
use Rattle.channel.specs.Best.Found.{none}
use Rattle.arrays.specs.Rules.{allowed_at}
use Rattle.reach.specs.Reach.{feasible}
use Rattle.rules.specs.Sides.{SideRules}

-- a terminal with n before it on its side, and the set of the table: bit 0 of the word is the column n + 1
abbrev pub with_word : ℕ → List ℕ → ℕ → Terminal → Terminal
with_word side rules n t = record { net = t.net; least = t.least; greatest = t.greatest; allowed = allowed_at rules side (suc n) * 2 ^ n }

-- the terminals behind the first n of a side
abbrev pub with_words : ℕ → List ℕ → ℕ → List Terminal → List Terminal
with_words side rules n [] = []
with_words side rules n (t ∷ ts) = with_word side rules n t ∷ with_words side rules (suc n) ts

-- a side's terminals
abbrev pub clipped_terminals : ℕ → List ℕ → List Terminal → List Terminal
clipped_terminals side rules ts = with_words side rules 0 ts

-- the sheet, side 0 the top and 1 the bottom
abbrev pub clipped_sheet : List ℕ → Sheet → Sheet
clipped_sheet rules s = sheet_with s.mark s.columns (clipped_terminals 0 rules s.top) (clipped_terminals 1 rules s.bottom)

-- what clipping does of a sheet s: t is the clipped one
pub record ClippedSheet (s t : Sheet) (rules : List ℕ) (is_open : Bool) : Type 0 where
  pub sound : Sound t
  pub tops : length t.top ≡ length s.top
  pub bottoms : length t.bottom ≡ length s.bottom
  pub top : SideRules 0 t.top rules
  pub bottom : SideRules 1 t.bottom rules
  pub loads : (a : Letter) (i j : ℕ) → load s a i j ≡ load t a i j
  pub densities : (cs : List ℕ) → density s cs ≡ density t cs
  pub assignments : (cs : List ℕ) → is_assignment s cs ≡ is_assignment t cs
  pub same : best s ≡ best t
  pub opened : is_open ≡ true → feasible t most_density ≡ true
  pub closed : is_open ≡ false → best s ≡ none
