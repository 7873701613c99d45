-- Modules that move whole, and the sheet of two sides of them (document 02, T-02; document 003, section 5.3).
-- Assumes nothing.
use Rattle.std.specs.Prelude.{ℕ, ◌+◌, ◌-◌, ◌*◌, ◌^◌, List, [], ◌∷◌, ◌++◌, Bool, true, false, not, ◌&&◌, length, leb, ltb, eqb}
use Rattle.mark.specs.declared.Mark.TheVariants.{Cp}
use Rattle.channel.specs.Sheet.{Terminal, Sheet, sheet_with, names_above}
use Rattle.modules.specs.declared.Pin.{Pin}

-- "each with a width 1 to 64, a set of allowed left edges, and pins with offsets from 1 to the width"; in the set, bit 0 is left edge 1
pub record Module : Type 0 where
  pub width : ℕ
  pub edges : ℕ
  pub pins : List Pin

-- the number of a side's pins
abbrev pub pin_count : List Module → ℕ
pin_count [] = 0
pin_count (m ∷ ms) = length m.pins + pin_count ms

-- the first offset of some pins, and the last of pins behind one at `before`
abbrev pub first_offset : List Pin → ℕ
first_offset [] = 0
first_offset (p ∷ ps) = p.offset

abbrev pub last_offset : ℕ → List Pin → ℕ
last_offset before [] = before
last_offset before (p ∷ ps) = last_offset p.offset ps

-- "width − last offset": the gap that a module leaves right of its last pin
abbrev pub gap_of : Module → ℕ
gap_of m = m.width - last_offset 0 m.pins

-- "each pin brings its net and gets that set moved right by its offset less 1"
abbrev pub pin_terminal : ℕ → ℕ → ℕ → Pin → Terminal
pin_terminal edges least greatest p =
    record { net = p.net; least = least; greatest = greatest; allowed = edges * 2 ^ (p.offset - 1) }

-- "fixed distances inside a module": pins behind one at `before`
abbrev pub inner_terminals : ℕ → ℕ → List Pin → List Terminal
inner_terminals edges before [] = []
inner_terminals edges before (p ∷ ps) =
    pin_terminal edges (p.offset - before) (p.offset - before) p ∷ inner_terminals edges p.offset ps

-- a module's pins, the first with this distance pair
abbrev pub pin_terminals : ℕ → ℕ → ℕ → List Pin → List Terminal
pin_terminals edges least greatest [] = []
pin_terminals edges least greatest (p ∷ ps) = pin_terminal edges least greatest p ∷ inner_terminals edges p.offset ps

-- the distance pair of a module's first pin: 0 and 0 in the first module of a side, "and between modules least = width − last offset + next
-- first offset, greatest 255"
abbrev pub first_least : Bool → ℕ → ℕ → ℕ
first_least true gap offset = 0
first_least false gap offset = gap + offset

abbrev pub first_greatest : Bool → ℕ
first_greatest true = 0
first_greatest false = 255

abbrev pub module_terminals : Bool → ℕ → Module → List Terminal
module_terminals is_first gap m =
    pin_terminals m.edges (first_least is_first gap (first_offset m.pins)) (first_greatest is_first) m.pins

-- the modules behind one that left this gap, or the first of a side
abbrev pub terminals_behind : Bool → ℕ → List Module → List Terminal
terminals_behind is_first gap [] = []
terminals_behind is_first gap (m ∷ ms) = module_terminals is_first gap m ++ terminals_behind false (gap_of m) ms

-- the terminals of a side of modules
abbrev pub side_terminals : List Module → List Terminal
side_terminals ms = terminals_behind true 0 ms

-- "Turn two such sides into a sheet", with "the mark of the sheets it is made from, else CP"
abbrev pub module_sheet : ℕ → List Module → List Module → Sheet
module_sheet l top bottom = sheet_with Cp l (side_terminals top) (side_terminals bottom)

-- a test holds of each module of a side
abbrev pub every : (Module → Bool) → List Module → Bool
every test [] = true
every test (m ∷ ms) = test m && every test ms

-- 16: "a module with no pins .. a width outside 1 to 64, or offsets not rising within the width"
abbrev pub is_rising : ℕ → ℕ → List Pin → Bool
is_rising width before [] = leb before width
is_rising width before (p ∷ ps) = ltb before p.offset && is_rising width p.offset ps

abbrev pub is_valid : Module → Bool
is_valid m = (leb 1 m.width && leb m.width 64) && (leb 1 (length m.pins) && is_rising m.width 0 m.pins)

-- and "more than 16 modules"
abbrev pub are_valid : List Module → Bool
are_valid ms = every is_valid ms && leb (length ms) 16

-- 17: "a left edge outside 1 to L − width + 1"; of a module wider than the channel, any left edge
abbrev pub is_within : ℕ → Module → Bool
is_within l m = not (names_above (l + 1 - m.width) m.edges)

-- 6: no pin has net 0
abbrev pub pins_named : List Pin → Bool
pins_named [] = true
pins_named (p ∷ ps) = not (eqb p.net 0) && pins_named ps

abbrev pub is_named : Module → Bool
is_named m = pins_named m.pins
