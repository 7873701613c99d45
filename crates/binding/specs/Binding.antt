-- Whether the distances of a side bind, told by the ends of its sets. Bit x of the i-th pin's set is the column x + i, and bit e of its range
-- the distance e + 1 from the pin before: so a number y of its set, from a number x of the set before, is the distance y - x + 1.
-- Assumes nothing.
use Rattle.std.specs.Prelude.{ℕ, ◌+◌, ◌-◌, List, Bool, not, ◌&&◌, leb, ltb}
use Rattle.std.specs.Int.Count.{count_leading_zeros, count_trailing_zeros}
use Rattle.channel.specs.Below.{any_below}
use Rattle.arrays.specs.Rules.{range_at, allowed_at}
use Rattle.bits.specs.Bits.{bit_of, in_word}

-- the lowest number of a set, and one more than its highest; 64 and 0 where it is empty
abbrev pub low_of : ℕ → ℕ
low_of w = count_trailing_zeros 64 w

abbrev pub end_of : ℕ → ℕ
end_of w = 64 - count_leading_zeros 64 w

-- the ends of a pin's set and of the next one's leave this distance, less 1: no less than from the highest number to the lowest of
-- the next, and no more than from the lowest to the highest of the next
abbrev pub left_by : ℕ → ℕ → ℕ → Bool
left_by set next e = leb (low_of next + 1 - end_of set) e && ltb e (end_of next - low_of set)

-- some such distance is not in the range
unfoldable pub out_of_range : ℕ → ℕ → ℕ → Bool
out_of_range set next range = in_word (λ (e : ℕ). left_by set next e && not (bit_of range e))

-- of no two pins of a side that follow each other, of n
unfoldable pub none_binds : List ℕ → ℕ → ℕ → Bool
none_binds rules side n =
    not
    (any_below (n - 1)
    (λ (k : ℕ). out_of_range (allowed_at rules side (k + 1)) (allowed_at rules side (k + 2)) (range_at rules side (k + 2))))
