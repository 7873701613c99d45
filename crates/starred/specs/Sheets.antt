-- The bytes of the sheets with known results (document 01, "Sheets with known results"), some with either mark (document 02, T-07).
-- Assumes nothing.
use Rattle.std.specs.Prelude.{ℕ, ◌-◌, ◌^◌, List, [], ◌∷◌}
use Rattle.channel.specs.Sheet.{Terminal, sheet_with}
use Rattle.mark.specs.declared.Mark.{Mark}
use Rattle.mark.specs.declared.Mark.TheVariants.{Cp}
use Rattle.encode.specs.Encode.{sheet_bytes}

-- a terminal, and the first of a side: "The first record of a side has distances 0 and 0"
abbrev pub later : ℕ → ℕ → ℕ → ℕ → Terminal
later net least greatest set = record { net = net; least = least; greatest = greatest; allowed = set }

abbrev pub first : ℕ → ℕ → Terminal
first net set = later net 0 0 set

-- a sheet of length l with these terminals that ends in CP
abbrev pub sheet : ℕ → List Terminal → List Terminal → List ℕ
sheet l top bottom = sheet_bytes (sheet_with Cp l top bottom)

-- a full set: every column from 1 to l
abbrev pub full : ℕ → ℕ
full l = 2 ^ l - 1

-- "Sheet A: L=3, top nets 1, 2, bottom nets 2, 1, all sets full, later ranges 1 to 255", and the same at another length
abbrev pub sheet_a_with : Mark → ℕ → List ℕ
sheet_a_with m l =
    sheet_bytes (sheet_with m l (first 1 (full l) ∷ later 2 1 255 (full l) ∷ []) (first 2 (full l) ∷ later 1 1 255 (full l) ∷ []))

abbrev pub sheet_a : ℕ → List ℕ
sheet_a = sheet_a_with Cp

-- "One top and one bottom pin, same net, L=1"
abbrev pub straight_with : Mark → List ℕ
straight_with m = sheet_bytes (sheet_with m 1 (first 7 (full 1) ∷ []) (first 7 (full 1) ∷ []))

abbrev pub straight : List ℕ
straight = straight_with Cp

-- "No terminals, L=1"
abbrev pub no_terminals : List ℕ
no_terminals = sheet 1 [] []

-- "Two top pins", of different nets: a channel of length l, their sets, and the range of the second
abbrev pub two_top : ℕ → ℕ → ℕ → ℕ → ℕ → List ℕ
two_top l set₁ set₂ least greatest = sheet l (first 1 set₁ ∷ later 2 least greatest set₂ ∷ []) []

-- "One pin with the empty set"
abbrev pub empty_set : List ℕ
empty_set = sheet 3 (first 1 0 ∷ []) []

-- "Top nets 4, 4, bottom 4, L=2, full sets, range 1 to 255"
abbrev pub three_pins_with : Mark → List ℕ
three_pins_with m = sheet_bytes (sheet_with m 2 (first 4 (full 2) ∷ later 4 1 255 (full 2) ∷ []) (first 4 (full 2) ∷ []))

abbrev pub three_pins : List ℕ
three_pins = three_pins_with Cp
