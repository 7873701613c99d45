-- Words as sets of numbers below 64.
-- Assumes nothing.
use Rattle.std.specs.Prelude.{ℕ, ◌/◌, ◌%◌, ◌^◌, Bool, eqb}
use Rattle.channel.specs.Below.{any_below}

-- the number k is in the set w
unfoldable pub bit_of : ℕ → ℕ → Bool
bit_of w k = eqb (w / 2 ^ k % 2) 1

-- f holds of some number that a word can hold
unfoldable pub in_word : (ℕ → Bool) → Bool
in_word f = any_below 64 f
