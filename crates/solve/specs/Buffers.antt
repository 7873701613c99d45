-- What a search leaves in the buffers that it works in (document 01, "Column, crossing, density").
-- Assumes nothing.
use Rattle.std.specs.Prelude.{ℕ, List, ◌++◌, length, drop, replicate}
use Rattle.channel.specs.Best.{Found}
use Rattle.channel.specs.Best.Found.{none, found}

-- "On success the first p+q bytes hold the columns and the rest is unchanged"
abbrev pub with_columns : Found → List ℕ → List ℕ
with_columns none old = old
with_columns (found d cs) old = cs ++ drop (length cs) old

-- "the first (p+1)(q+1)(L+1)² work cells are 0 and the rest unchanged"
abbrev pub cleared : ℕ → List ℕ → List ℕ
cleared n old = replicate n 0 ++ drop n old
