-- Demands 1 and 2 of one search, in the numbers of document 01's refusal list: of the number that it returned, 0 with an assignment, the
-- density that came with it, and its two buffers before (columns, work) and after (columns', work').
-- Assumes nothing.
use Rattle.std.specs.Prelude.{ℕ, ◌≤◌, ◌<◌, ◌≡◌, List, false, ◌↔◌, length, take, drop}
use Rattle.channel.specs.Sheet.{Sheet}
use Rattle.channel.specs.Assignment.{is_assignment}
use Rattle.channel.specs.Best.{IsBest}
use Rattle.soundness.specs.Read.{read}
use Rattle.soundness.specs.Read.Read.{sound, refused}
use Rattle.search.specs.Answer.{pins_needed, cells_needed}
use Rattle.solve.specs.Buffers.{cleared}

-- refused with number n: "Each refusal carries density 0", "nothing written"
pub record Refuses (n number density : ℕ) (columns work columns' work' : List ℕ) : Type 0 where
  pub returned : number ≡ n
  pub carried : density ≡ 0
  pub bytes : columns' ≡ columns
  pub cells : work' ≡ work

-- an assignment is given: number 0, and the first p+q bytes are an assignment with that density, which no assignment is below, and of
-- those with as little its word is the smallest
pub record Gives (s : Sheet) (number density : ℕ) (columns' : List ℕ) : Type 0 where
  pub returned : number ≡ 0
  pub best : IsBest s density (take (pins_needed s) columns')

-- the bytes are those of a sound sheet, and its buffers are long enough
pub record LongEnough (bytes : List ℕ) (s : Sheet) (columns work : ℕ) : Type 0 where
  pub reads : read bytes ≡ sound s
  pub pins : pins_needed s ≤ columns
  pub cells : cells_needed s ≤ work

-- "On a sound sheet with buffers long enough, refusal means that none exists, and always comes then"
pub record Decides (s : Sheet) (number density : ℕ) (columns work columns' work' : List ℕ) : Type 0 where
  pub none : (number ≡ 11) ↔ ((es : List ℕ) → is_assignment s es ≡ false)
  -- "column buffer unchanged"
  pub refuses : number ≡ 11 → (density ≡ 0) × (columns' ≡ columns)
  -- "On success the first p+q bytes hold the columns and the rest is unchanged"
  pub gives : (number ≡ 11 → ⊥) → Gives s number density columns' × (drop (pins_needed s) columns' ≡ drop (pins_needed s) columns)
  -- "On success and on 11, the first .. work cells are 0 and the rest unchanged"
  pub cells : work' ≡ cleared (cells_needed s) work

-- all of it: 1 to 8 as they are read, then 9, then 10, each the first that applies, else 11 or an assignment
pub record Returned (bytes columns work columns' work' : List ℕ) (number density : ℕ) : Type 0 where
  pub unsound : (n : ℕ) → read bytes ≡ refused n → Refuses n number density columns work columns' work'
  pub few_bytes : (s : Sheet) → read bytes ≡ sound s → length columns < pins_needed s → Refuses 9 number density columns work columns' work'
  pub few_cells :
      (s : Sheet) → read bytes ≡ sound s → pins_needed s ≤ length columns → length work < cells_needed s
      → Refuses 10 number density columns work columns' work'
  pub decides : (s : Sheet) → LongEnough bytes s (length columns) (length work) → Decides s number density columns work columns' work'
