-- The steps through a sheet's terminals (document 01, "The sheet": "steps through its terminals, top then bottom, each once
-- with its side, place and record, and then says it has finished; over a refused sheet it says so at once").
-- Assumes nothing.
use Rattle.std.specs.Prelude.{ℕ, zero, suc, ◌+◌, List, [], ◌∷◌, ◌++◌, Option, Some, None}
use Rattle.channel.specs.Sheet.{Terminal, Sheet}
use Rattle.terminal.specs.Terminal.{record_of}
use Rattle.channel.specs.declared.Side.{Side}
use Rattle.channel.specs.declared.Side.TheVariants.{Top, Bottom}
use Rattle.soundness.specs.Read.{Read, read}
use Rattle.soundness.specs.Read.Read.{sound, refused}
use Rattle.cursor.specs.declared.Cursor.{Cursor}
use Rattle.terminal.specs.declared.Record.{Record}
use Rattle.cursor.specs.declared.Visit.{Visit}

-- one side's terminals with their places, the first of which is k
abbrev pub visits : Side → ℕ → List Terminal → List Visit
visits side k [] = []
visits side k (t ∷ ts) = record { side = side; place = k; terminal = record_of t } ∷ visits side (k + 1) ts

-- all terminals of a sheet, top then bottom
unfoldable pub all_visits : Sheet → List Visit
all_visits s = visits Top 1 s.top ++ visits Bottom 1 s.bottom

-- the answer of a step whose record is known, with the cursor past it
abbrev pub visit_of : Side → ℕ → Cursor → Option Record → Option (Visit × Cursor)
visit_of side place next (Some r) = Some (record { side = side; place = place; terminal = r }, next)
visit_of side place next None = None

-- the k-th of them, from 0, with the cursor past it; then the end, `None`
abbrev pub step_in : List Visit → ℕ → Cursor → Option (Visit × Cursor)
step_in [] k next = None
step_in (v ∷ vs) zero next = Some (v, next)
step_in (v ∷ vs) (suc k) next = step_in vs k next

abbrev pub start : Cursor
start = record { passed = 0 }

abbrev pub step_as : ℕ → Read → Option (Visit × Cursor)
step_as passed (sound s) = step_in (all_visits s) passed (record { passed = passed + 1 })
step_as passed (refused n) = None

unfoldable pub step_of : List ℕ → Cursor → Option (Visit × Cursor)
step_of b c = step_as c.passed (read b)
