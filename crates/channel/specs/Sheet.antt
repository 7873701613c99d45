-- What one channel asks for: its mark, its length, and the terminals of its two sides in their fixed orders (document 01, "The sheet").
-- Assumes nothing.
use Rattle.std.specs.Prelude.{ℕ, ◌≤◌, ◌^◌, ◌≡◌, List, [], ◌∷◌, ◌++◌, map, Bool, true, false, ◌&&◌, length, leb, eqb}
use Rattle.mark.specs.declared.Mark.{Mark}

-- the two sides of the channel
pub data Side : Type 0 where
  top bottom : Side

-- "Record": a pin to be placed, with its net, the range of its distance from the one before it, and its allowed set, in which bit 0 is
-- column 1
pub record Terminal : Type 0 where
  pub net : ℕ
  pub least : ℕ
  pub greatest : ℕ
  pub allowed : ℕ

-- stands behind a side's last terminal: one that may stand nowhere
abbrev pub no_terminal : Terminal
no_terminal = record { net = 0; least = 0; greatest = 0; allowed = 0 }

-- a sheet as read: its mark, the length L of the channel, and each side's terminals
pub record Sheet : Type 0 where
  pub mark : Mark
  pub columns : ℕ
  pub top : List Terminal
  pub bottom : List Terminal

abbrev pub sheet_with : Mark → ℕ → List Terminal → List Terminal → Sheet
sheet_with m l ts us = record { mark = m; columns = l; top = ts; bottom = us }

-- the terminals of one side
abbrev pub terminals : Sheet → Side → List Terminal
terminals s top = s.top
terminals s bottom = s.bottom

-- the nets of terminals, in their order
abbrev pub nets : List Terminal → List ℕ
nets = map (λ (t : Terminal). t.net)

-- the nets of all terminals of a sheet, top then bottom
abbrev pub all_nets : Sheet → List ℕ
all_nets s = nets (s.top ++ s.bottom)

-- a set names a column above l: it has a bit at l or higher
abbrev pub names_above : ℕ → ℕ → Bool
names_above l set = leb (2 ^ l) set

-- "The first record of a side has distances 0 and 0 .. Each later one has 1 ≤ least ≤ greatest"
abbrev pub distances_hold : Bool → Terminal → Bool
distances_hold true t = eqb t.least 0 && eqb t.greatest 0
distances_hold false t = leb 1 t.least && leb t.least t.greatest

-- what 6, 7 and 8 ask of one terminal
pub record SoundTerminal (columns : ℕ) (is_first : Bool) (t : Terminal) : Type 0 where
  pub net : eqb t.net 0 ≡ false
  pub distances : distances_hold is_first t ≡ true
  pub allowed : names_above columns t.allowed ≡ false

abbrev pub SoundFrom : ℕ → Bool → List Terminal → Type 0
SoundFrom l is_first [] = Unit {0}
SoundFrom l is_first (t ∷ ts) = SoundTerminal l is_first t × SoundFrom l false ts

-- "A sheet is sound when none of 1 to 8 applies to it": what that says of the sheet as read
pub record Sound (s : Sheet) : Type 0 where
  pub columns : (1 ≤ s.columns) × (s.columns ≤ 64)
  pub counts : (length s.top ≤ 64) × (length s.bottom ≤ 64)
  pub top : SoundFrom s.columns true s.top
  pub bottom : SoundFrom s.columns true s.bottom
