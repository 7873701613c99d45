-- What a search answers and leaves behind (document 01, "Column, crossing, density" and "The refusal list").
-- Assumes nothing.
use Rattle.std.specs.Prelude.{ℕ, ◌+◌, ◌≡◌, List, cond, length, ltb, Result, Ok, Err}
use Rattle.channel.specs.Sheet.{Sheet}
use Rattle.channel.specs.Best.{Found, best}
use Rattle.channel.specs.Best.Found.{none, found}
use Rattle.soundness.specs.Check.{check_of}
use Rattle.soundness.specs.Read.{sheet_of}
use Rattle.sheet.specs.Parts.{cells_of}
use Rattle.solve.specs.Buffers.{with_columns, cleared}
use Rattle.searched.specs.declared.SearchRefusal.{SearchRefusal}
use Rattle.refusals.specs.declared.Refusal.{Refusal}
use Rattle.searched.specs.declared.SearchRefusal.TheVariants as searched

-- "a column buffer of at least p+q bytes, and a work buffer of at least (p+1)(q+1)(L+1)² 16-bit cells"
abbrev pub pins_needed : Sheet → ℕ
pins_needed s = length s.top + length s.bottom

abbrev pub cells_needed : Sheet → ℕ
cells_needed s = cells_of s.columns (length s.top) (length s.bottom)

-- the least density, or 11
abbrev pub answer_as : Found → Result ℕ SearchRefusal
answer_as none = Err searched.NoAssignment
answer_as (found d cs) = Ok d

-- "for a search 9, 10, 11", with so many column bytes and work cells
unfoldable pub answer_in : Sheet → ℕ → ℕ → Result ℕ SearchRefusal
answer_in s columns cells =
    cond (ltb columns (pins_needed s)) (Err searched.Columns) (cond (ltb cells (cells_needed s)) (Err searched.Cells) (answer_as (best s)))

abbrev pub answer_if : Result Unit Refusal → Sheet → ℕ → ℕ → Result ℕ SearchRefusal
answer_if (Ok tt) s columns cells = answer_in s columns cells
answer_if (Err why) s columns cells = Err (searched.Sheet why)

-- the answer: 1 to 8 as the sheet layer says, then 9, 10, 11, else the least density
unfoldable pub searched_of : List ℕ → ℕ → ℕ → Result ℕ SearchRefusal
searched_of bytes columns cells = answer_if (check_of bytes) (sheet_of bytes) columns cells

abbrev pub columns_if : Result ℕ SearchRefusal → Sheet → List ℕ → List ℕ
columns_if (Ok d) s old = with_columns (best s) old
columns_if (Err why) s old = old

-- the column buffer at exit
unfoldable pub columns_after : List ℕ → ℕ → List ℕ → List ℕ
columns_after bytes cells old = columns_if (searched_of bytes (length old) cells) (sheet_of bytes) old

-- "On success and on 11, the first (p+1)(q+1)(L+1)² work cells are 0 and the rest unchanged. On other refusals the work buffer
-- is unchanged"
abbrev pub work_if : Result ℕ SearchRefusal → Sheet → List ℕ → List ℕ
work_if (Ok d) s old = cleared (cells_needed s) old
work_if (Err searched.NoAssignment) s old = cleared (cells_needed s) old
work_if (Err (searched.Sheet why)) s old = old
work_if (Err searched.Columns) s old = old
work_if (Err searched.Cells) s old = old

-- the work buffer at exit
unfoldable pub work_after : List ℕ → ℕ → List ℕ → List ℕ
work_after bytes columns old = work_if (searched_of bytes columns (length old)) (sheet_of bytes) old

-- the promise of a search: its answer, the columns and the cells at exit
pub record Searches (bytes buffer work buffer' work' : List ℕ) (r : Result ℕ SearchRefusal) : Type 0 where
  pub answer : r ≡ searched_of bytes (length buffer) (length work)
  pub columns : buffer' ≡ columns_after bytes (length work) buffer
  pub cells : work' ≡ work_after bytes (length buffer) work
