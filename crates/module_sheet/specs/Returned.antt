-- What a call on two sides of modules returned and left, in the numbers of the refusal list (document 02, T-02): of the number, 0 with a
-- sheet, the length that came with it, and the sheet buffer before (sheet) and after (sheet').
-- Assumes nothing.
use Rattle.std.specs.Prelude.{ℕ, ◌≤◌, ◌<◌, ◌≡◌, List, true, length, take, drop}
use Rattle.channel.specs.Sheet.{Sound}
use Rattle.encode.specs.Encode.{sheet_bytes, sheet_size}
use Rattle.soundness.specs.Read.{read}
use Rattle.soundness.specs.Read.Read.{sound}
use Rattle.modules.specs.Modules.{Module, pin_count, every, are_valid, is_within, is_named, module_sheet}
use Rattle.modules.specs.Bytes.{modules_in}
use Rattle.placements.specs.Placements.{Matches}

-- refused with number n: "every refusal leaves that buffer unchanged"
pub record Refuses (n number written : ℕ) (sheet sheet' : List ℕ) : Type 0 where
  pub returned : number ≡ n
  pub length : written ≡ 0
  pub bytes : sheet' ≡ sheet

-- the tests that each answer comes from, of a channel of l columns and both its sides
abbrev pub InChannel : ℕ → Type 0
InChannel l = (1 ≤ l) × (l ≤ 64)

abbrev pub AllValid : List Module → List Module → Type 0
AllValid top bottom = (are_valid top ≡ true) × (are_valid bottom ≡ true)

abbrev pub Within : ℕ → List Module → List Module → Type 0
Within l top bottom =
    (every (is_within l) top ≡ true) × (every (is_within l) bottom ≡ true)

abbrev pub Counts : List Module → List Module → Type 0
Counts top bottom = (pin_count top ≤ 64) × (pin_count bottom ≤ 64)

abbrev pub Named : List Module → List Module → Type 0
Named top bottom = (every is_named top ≡ true) × (every is_named bottom ≡ true)

-- a sheet is given: it is the sheet meant, with its top section first and the mark CP; it is sound, reads back as the sheet meant, and its
-- assignments are the placements; what is behind it is as it was
pub record Gives (l : ℕ) (top bottom : List Module) (number written : ℕ) (sheet sheet' : List ℕ) : Type 0 where
  pub returned : number ≡ 0
  pub length : written ≡ sheet_size (pin_count top) (pin_count bottom)
  pub bytes : take written sheet' ≡ sheet_bytes (module_sheet l top bottom)
  pub behind : drop written sheet' ≡ drop written sheet
  pub whole : Sound (module_sheet l top bottom)
  pub reads : read (take written sheet') ≡ sound (module_sheet l top bottom)
  pub matches : Matches l top bottom

-- all of it: 3, 16, 17, 4, 6, 9, each the first that applies, else the sheet
pub record Decides (l : ℕ) (top bottom : List Module) (number written : ℕ) (sheet sheet' : List ℕ) : Type 0 where
  pub channel : (InChannel l → ⊥) → Refuses 3 number written sheet sheet'
  pub modules : InChannel l → (AllValid top bottom → ⊥) → Refuses 16 number written sheet sheet'
  pub edge : InChannel l → AllValid top bottom → (Within l top bottom → ⊥) → Refuses 17 number written sheet sheet'
  pub count :
      InChannel l → AllValid top bottom → Within l top bottom → (Counts top bottom → ⊥) → Refuses 4 number written sheet sheet'
  pub net :
      InChannel l → AllValid top bottom → Within l top bottom → Counts top bottom → (Named top bottom → ⊥)
      → Refuses 6 number written sheet sheet'
  pub short :
      InChannel l → AllValid top bottom → Within l top bottom → Counts top bottom → Named top bottom
      → length sheet < sheet_size (pin_count top) (pin_count bottom) → Refuses 9 number written sheet sheet'
  pub gives :
      InChannel l → AllValid top bottom → Within l top bottom → Counts top bottom → Named top bottom
      → sheet_size (pin_count top) (pin_count bottom) ≤ length sheet → Gives l top bottom number written sheet sheet'

-- of the bytes of two sides
abbrev pub Returned : ℕ → List ℕ → List ℕ → List ℕ → List ℕ → ℕ → ℕ → Type 0
Returned l top bottom sheet sheet' number written = Decides l (modules_in top) (modules_in bottom) number written sheet sheet'
