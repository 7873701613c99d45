-- A number in bytes (document 01, "The sheet").
-- Assumes nothing.
use Rattle.std.specs.Prelude.{ℕ, zero, suc, ◌+◌, ◌*◌, List, get_or}

-- "Little-endian": the number in the n bytes from i on
unfoldable pub little : ℕ → List ℕ → ℕ → ℕ
little zero b i = 0
little (suc n) b i = get_or b i 0 + 256 * little n b (suc i)
