-- What stands before a module: the gap that the module before it leaves, or nothing before the first of a side.
-- Assumes nothing.
use Rattle.std.specs.Prelude.{ℕ, Option, Some, None, Bool, true, false}

abbrev pub is_first : Option ℕ → Bool
is_first None = true
is_first (Some gap) = false

abbrev pub gap_behind : Option ℕ → ℕ
gap_behind None = 0
gap_behind (Some gap) = gap
