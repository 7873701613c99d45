-- What the functions below `print` write.
-- Assumes nothing.
use Rattle.std.specs.Prelude.{ℕ, List, []}
use Rattle.cursor.specs.declared.Visit.{Visit}
use Rattle.soundness.specs.Read.{Read, read}
use Rattle.soundness.specs.Read.Read.{sound, refused}
use Rattle.cursor.specs.Visits.{all_visits}

-- the terminals of a sheet as read, top then bottom
abbrev pub visits_as : Read → List Visit
visits_as (sound s) = all_visits s
visits_as (refused n) = []

unfoldable pub visits_of : List ℕ → List Visit
visits_of b = visits_as (read b)
