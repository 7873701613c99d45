-- What the steps of a reader find from the start of a sheet on (document 01, "The sheet"). What a line quotes is the document's.
-- Assumes nothing.
use Rattle.std.specs.Prelude.{ℕ, zero, suc, ◌+◌, ◌≤◌, ◌≡◌, List, [], ◌∷◌, ◌++◌, length, take, Option, Some, None}
use Rattle.channel.specs.Sheet.{Sheet}
use Rattle.channel.specs.declared.Side.TheVariants.{Top, Bottom}
use Rattle.soundness.specs.Read.{Read}
use Rattle.soundness.specs.Read.Read.{sound, refused}
use Rattle.cursor.specs.declared.Cursor.{Cursor}
use Rattle.cursor.specs.declared.Visit.{Visit}
use Rattle.cursor.specs.Visits.{visits}
use Rattle.reader.specs.Reader.{step_at, passed_after}

-- the place of a new reader after n steps
abbrev pub place_after : List ℕ → ℕ → ℕ
place_after b zero = 0
place_after b (suc n) = passed_after (step_at b (place_after b n)) (place_after b n)

-- what step number n finds, from 0
abbrev pub step_number : List ℕ → ℕ → Option (Visit × Cursor)
step_number b n = step_at b (place_after b n)

abbrev pub visit_in : Option (Visit × Cursor) → List Visit
visit_in (Some (v, past)) = v ∷ []
visit_in None = []

-- the terminals that the first n steps find
abbrev pub terminals_by : List ℕ → ℕ → List Visit
terminals_by b zero = []
terminals_by b (suc n) = terminals_by b n ++ visit_in (step_number b n)

pub record ReadsAll (b : List ℕ) (s : Sheet) : Type 0 where
  -- "its terminals, top then bottom, each once with its side, place and record": n steps find the first n
  pub each : (n : ℕ) → terminals_by b n ≡ take n (visits Top 1 s.top ++ visits Bottom 1 s.bottom)
  -- "and then says it has finished": so does every step past the p+q terminals
  pub end : (n : ℕ) → length s.top + length s.bottom ≤ n → step_number b n ≡ None

-- what is promised of a sheet as read; "over a refused sheet it says so at once"
abbrev pub Reads : List ℕ → Read → Type 0
Reads b (sound s) = ReadsAll b s
Reads b (refused why) = (n : ℕ) → step_number b n ≡ None
