-- How the density of a column list is counted: each net once, over the columns from its left end to its right end.
-- Assumes nothing.
use Rattle.std.specs.Prelude.{ℕ, ◌+◌, ◌<◌, ◌≡◌, List, Bool, cond, get_or}
use Rattle.mark.specs.declared.Mark.{Mark}
use Rattle.channel.specs.Density.{Pin, straight}
use Rattle.channel.specs.Spans.{leftmost, rightmost, spans, sum_last}
use Rattle.ends.specs.Ends.{pins_of}

-- whether net n crosses column c, by its two ends, where f says which nets are straight wires that count
abbrev pub net_spans : (ℕ → Bool) → List Pin → ℕ → ℕ → Bool
net_spans f ps c n = spans (f n) (leftmost n ps) (rightmost n ps) c

-- how many of a list's nets cross column c on a sheet with this mark, each counted where it occurs last
unfoldable pub counted_at : Mark → List ℕ → List ℕ → ℕ → ℕ
counted_at m ns cs c = sum_last (net_spans (straight m ns) (pins_of ns cs) c) ns

-- w is added to the counts of those columns that f holds of, and the others are kept
abbrev pub Added : ℕ → (ℕ → Bool) → List ℕ → List ℕ → Type 0
Added w f before after = (c : ℕ) → get_or after c 0 ≡ get_or before c 0 + cond (f c) w 0

-- no count is so large that 1 more would not fit
abbrev pub Small : List ℕ → Type 0
Small counts = (c : ℕ) → get_or counts c 0 < 65535
