-- The array of the rules: two words for each terminal of either side.
-- Assumes nothing.
use Rattle.std.specs.Prelude.{ℕ, ◌+◌, ◌-◌, ◌*◌, List, get_or, set}
use Rattle.channel.specs.declared.Side.{Side}
use Rattle.channel.specs.declared.Side.TheVariants.{Top, Bottom}

-- the most terminals of a side; the words of a side, and of both
abbrev pub pins : ℕ
pins = 64

abbrev side_words : ℕ
side_words = 128

abbrev pub rule_words : ℕ
rule_words = 256

-- a side's number
abbrev pub side_number : Side → ℕ
side_number Top = 0
side_number Bottom = 1

-- where the words of the i-th terminal, from 1, of the side with a number stand: first the side's ranges, then its allowed sets
abbrev pub range_place : ℕ → ℕ → ℕ
range_place side i = side_words * side + (i - 1)

abbrev pub allowed_place : ℕ → ℕ → ℕ
allowed_place side i = side_words * side + (i - 1) + pins

-- the distances in range, less 1, and the allowed columns, less i
abbrev pub range_at : List ℕ → ℕ → ℕ → ℕ
range_at rules side i = get_or rules (range_place side i) 0

abbrev pub allowed_at : List ℕ → ℕ → ℕ → ℕ
allowed_at rules side i = get_or rules (allowed_place side i) 0

-- the array with a terminal's two words put in
abbrev pub put_rule : List ℕ → ℕ → ℕ → ℕ → ℕ → List ℕ
put_rule rules side i range allowed = set (set rules (range_place side i) range) (allowed_place side i) allowed

-- and with its allowed set alone
abbrev pub put_allowed : List ℕ → ℕ → ℕ → ℕ → List ℕ
put_allowed rules side i allowed = set rules (allowed_place side i) allowed
