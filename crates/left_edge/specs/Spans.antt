-- The spans of a sheet's nets for a column list (document 02, T-04 and T-07).
-- Assumes nothing.
use Rattle.std.specs.Prelude.{ℕ, List, [], ◌∷◌, ◌++◌, map, Bool, false, not, cond, ◌&&◌, ◌||◌, eqb}
use Rattle.kind.specs.Kinds.{kind_of, leaves_left, leaves_right}
use Rattle.mark.specs.declared.Mark.{Mark}
use Rattle.channel.specs.Sheet.{Sheet, all_nets}
use Rattle.channel.specs.Density.{any, Pin, pins, straight, crosses, distinct}
use Rattle.channel.specs.Spans.{leftmost, rightmost}
use Rattle.left_edge.specs.declared.Interval.{Interval}
use Rattle.left_edge.specs.declared.Span.{Span}
use Rattle.left_edge.specs.Order.{in_order}
use Rattle.left_edge.specs.Method.{left_edge}

-- a net's ends: the columns of its leftmost and rightmost pins, or column 1 and column l where it leaves there
abbrev pub left_end : List Pin → ℕ → ℕ
left_end ps n = cond (leaves_left (kind_of n)) 1 (leftmost n ps)

abbrev pub right_end : ℕ → List Pin → ℕ → ℕ
right_end l ps n = cond (leaves_right (kind_of n)) l (rightmost n ps)

-- a net's interval on a channel of l columns. By the sheet's own rule of counting, where f says which nets are straight wires that count: a
-- net that crosses any column crosses its left end
abbrev pub interval_of : (ℕ → Bool) → ℕ → List Pin → ℕ → Interval
interval_of f l ps n = record { net = n; left = left_end ps n; right = right_end l ps n; counts = crosses f ps n (left_end ps n) }

-- "take spans by left end, then net number", "one for each net": the nets of a list of pins' nets, each once, in order
abbrev pub nets_by_left : List Pin → List ℕ → List ℕ
nets_by_left ps ns = in_order (left_end ps) (distinct ns)

-- their spans under a mark
unfoldable pub spans_in : Mark → ℕ → List Pin → List ℕ → List Span
spans_in m l ps ns = left_edge (map (interval_of (straight m ns) l ps) (nets_by_left ps ns))

-- of a sheet and a column list
abbrev pub spans_of : Sheet → List ℕ → List Span
spans_of s cs = spans_in s.mark s.columns (pins (s.top ++ s.bottom) cs) (all_nets s)

-- two pins in one column are of different nets
abbrev pub differ : Pin → Pin → Bool
differ p o = eqb p.column o.column && not (eqb p.net o.net)

-- "a column has pins of two nets": a pin and a later one
abbrev pub two_nets : List Pin → Bool
two_nets [] = false
two_nets (p ∷ ps) = any (differ p) ps || two_nets ps
