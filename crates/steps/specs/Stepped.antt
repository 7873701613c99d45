-- The numbers that are reached from a set by the steps of another, and those from which it is reached.
-- Assumes nothing.
use Rattle.std.specs.Prelude.{ℕ, suc, ◌+◌, ◌-◌, ◌<◌, ◌≡◌, Bool, cond, ◌&&◌, not, leb, ltb}
use Rattle.channel.specs.Below.{any_below}
use Rattle.bits.specs.Bits.{bit_of, in_word}

-- k is reached from a number of w by a step of `by`
unfoldable pub stepped : ℕ → ℕ → ℕ → Bool
stepped w by k = any_below (suc k) (λ (y : ℕ). bit_of by (k - y) && bit_of w y)

-- from k a number of w is reached by a step of `by`
unfoldable pub stepped_back : ℕ → ℕ → ℕ → Bool
stepped_back w by k = in_word (λ (y : ℕ). leb k y && (bit_of by (y - k) && bit_of w y))

-- k is a number of w or less than `width` above one
unfoldable pub covered : ℕ → ℕ → ℕ → Bool
covered w width k = any_below (suc k) (λ (y : ℕ). ltb (k - y) width && bit_of w y)

-- the number whose place n takes when the numbers of `low` change places with those `by` above them
unfoldable pub exchanged : ℕ → ℕ → ℕ → ℕ
exchanged by low n = cond (bit_of low n) (n + by) (n - by)

-- each number below 64 is one of `low` or stands `by` above one, and not both; and its place is taken by one below 64
abbrev pub Halves : ℕ → ℕ → Type 0
Halves by low = (n : ℕ) → n < 64 → ((leb by n && bit_of low (n - by)) ≡ not (bit_of low n)) × (exchanged by low n < 64)
