-- Numbers as decimal digits, in ASCII.
-- Assumes nothing.
use Rattle.std.specs.Prelude.{ℕ, zero, suc, ◌+◌, ◌/◌, ◌%◌, List, [], ◌∷◌, ◌++◌, cond, ltb}

-- the decimal digits of n, the most significant first, k of them at most
abbrev pub digits : ℕ → ℕ → List ℕ
digits zero n = []
digits (suc k) n = cond (ltb n 10) ((48 + n) ∷ []) (digits k (n / 10) ++ ((48 + n % 10) ∷ []))

-- a number, with k digits at most
unfoldable pub numeral : ℕ → ℕ → List ℕ
numeral k n = digits k n

-- a name and its number
abbrev pub field : ℕ → List ℕ → ℕ → List ℕ
field k name n = name ++ numeral k n
