-- Which net lies over which in an assignment (document 02, T-06): the vertical constraints of documents 000 and 002.
-- Assumes nothing.
use Rattle.std.specs.Prelude.{ℕ, List, Bool, not, ◌&&◌, ◌||◌, eqb}
use Rattle.kind.specs.Kinds.{kind_of, leaves_left, leaves_right}
use Rattle.channel.specs.Sheet.{Sheet, all_nets}
use Rattle.channel.specs.Assignment.{top_columns, bottom_columns}
use Rattle.channel.specs.Density.{any, Pin, pins, some_pin, pin_count}

-- "a plain one-pin net"
abbrev pub alone : List ℕ → ℕ → Bool
alone ns n = not (leaves_left (kind_of n) || leaves_right (kind_of n)) && eqb (pin_count n ns) 1

-- "both different and neither a plain one-pin net", of the nets of all pins
abbrev pub differ : List ℕ → ℕ → ℕ → Bool
differ ns a b = not (eqb a b) && (not (alone ns a) && not (alone ns b))

-- a pin of net a on top stands in the column of a pin of net b at the bottom
abbrev pub faces : List Pin → List Pin → ℕ → ℕ → Bool
faces tops bottoms a b = any (λ (p : Pin). eqb p.net a && some_pin (λ (k : ℕ). eqb k p.column) b bottoms) tops

-- "net a lies over net b when a column has a on top and b below, both different and neither a plain one-pin net"
unfoldable pub lies_over : Sheet → List ℕ → ℕ → ℕ → Bool
lies_over s cs a b =
    faces (pins s.top (top_columns s cs)) (pins s.bottom (bottom_columns s cs)) a b && differ (all_nets s) a b
