-- What two sides of modules come to: the sheet that is written, or the first refusal that applies (document 02, T-02).
-- Assumes nothing.
use Rattle.std.specs.Prelude.{ℕ, ◌≡◌, List, ◌++◌, Bool, true, false, ◌&&◌, length, take, drop, leb, Result, Ok, Err}
use Rattle.refusals.specs.declared.Refusal.TheVariants.{Length, Count, Net}
use Rattle.encode.specs.Encode.{sheet_bytes, sheet_size}
use Rattle.soundness.specs.Read.{read}
use Rattle.soundness.specs.Read.Read.{sound}
use Rattle.modules.specs.Modules.{Module, pin_count, module_sheet}
use Rattle.modules.specs.Bytes.{modules_in}
use Rattle.module_check.specs.declared.Tests.{Tests}
use Rattle.module_check.specs.Tests.{tests_of, combined}
use Rattle.made.specs.declared.ModuleRefusal.{ModuleRefusal}
use Rattle.made.specs.declared.ModuleRefusal.TheVariants.{Sheet as Unsound, Module as Invalid, Edge, SheetBuffer}

-- refused for this reason unless the test holds
abbrev pub unless : Bool → Result ℕ ModuleRefusal → Result ℕ ModuleRefusal → Result ℕ ModuleRefusal
unless true why next = next
unless false why next = why

-- "16 .. over all modules, top then bottom; then 17 likewise ..; then 4, 6 and, for a sheet buffer too short, 9": of the tests of both
-- sides, and of p and q pins
unfoldable pub answer_of : Tests → ℕ → ℕ → ℕ → Result ℕ ModuleRefusal
answer_of t p q room =
    unless t.valid (Err Invalid)
    (unless t.within (Err Edge)
    (unless (leb p 64 && leb q 64) (Err (Unsound Count))
    (unless t.named (Err (Unsound Net))
    (unless (leb (sheet_size p q) room) (Err SheetBuffer)
    (Ok (sheet_size p q))))))

-- "3 first, as before", of two sides of modules and a sheet buffer of so many bytes
unfoldable pub answer_in : ℕ → List Module → List Module → ℕ → Result ℕ ModuleRefusal
answer_in l top bottom room =
    unless (leb 1 l && leb l 64) (Err (Unsound Length))
    (answer_of (combined (tests_of l top) (tests_of l bottom)) (pin_count top) (pin_count bottom) room)

-- of the bytes of two sides
abbrev pub made_of : ℕ → List ℕ → List ℕ → ℕ → Result ℕ ModuleRefusal
made_of l top bottom room = answer_in l (modules_in top) (modules_in bottom) room

-- "every refusal leaves that buffer unchanged"; a sheet leaves what is behind it
abbrev pub with_sheet : Result ℕ ModuleRefusal → List ℕ → List ℕ → List ℕ
with_sheet (Ok n) bytes old = bytes ++ drop (length bytes) old
with_sheet (Err why) bytes old = old

-- the sheet buffer at exit
unfoldable pub sheet_after : ℕ → List ℕ → List ℕ → List ℕ → List ℕ
sheet_after l top bottom old =
    with_sheet (made_of l top bottom (length old)) (sheet_bytes (module_sheet l (modules_in top) (modules_in bottom))) old

-- what was written is read back as the sheet meant
abbrev pub ReadsBack : ℕ → List ℕ → List ℕ → List ℕ → Result ℕ ModuleRefusal → Type 0
ReadsBack l top bottom sheet' r =
    (n : ℕ) → r ≡ Ok n → read (take n sheet') ≡ sound (module_sheet l (modules_in top) (modules_in bottom))

-- the promise: the answer, every byte of the sheet buffer, and that the sheet reads back
pub record Makes (l : ℕ) (top bottom sheet sheet' : List ℕ) (r : Result ℕ ModuleRefusal) : Type 0 where
  pub answer : r ≡ made_of l top bottom (length sheet)
  pub bytes : sheet' ≡ sheet_after l top bottom sheet
  pub reads : ReadsBack l top bottom sheet' r
