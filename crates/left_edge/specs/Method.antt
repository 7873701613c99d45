-- The left-edge method: intervals on tracks (document 02, T-04; document 003, section 4.4).
-- Assumes nothing.
use Rattle.std.specs.Prelude.{ℕ, suc, max, List, [], ◌∷◌, cond, ltb}
use Rattle.left_edge.specs.declared.Interval.{Interval}
use Rattle.left_edge.specs.declared.Span.{Span}

-- Of each track, from track 1 on, how far right it is used. How many tracks from the first one on reach column l: the lowest free track
-- is the next
abbrev pub passed : List ℕ → ℕ → ℕ
passed [] l = 0
passed (e ∷ es) l = cond (ltb e l) 0 (suc (passed es l))

-- how far right each is used once an interval from l to r is on the lowest free one
abbrev pub place : List ℕ → ℕ → ℕ → List ℕ
place [] l r = r ∷ []
place (e ∷ es) l r = cond (ltb e l) (r ∷ es) (e ∷ place es l r)

-- "each on the lowest free track, from 1"; "Nets that cross nothing get track 0"
abbrev pub track_on : List ℕ → Interval → ℕ
track_on es x = cond x.counts (suc (passed es x.left)) 0

abbrev pub step : List ℕ → Interval → List ℕ
step es x = cond x.counts (place es x.left x.right) es

-- "net, left end, right end and track"
abbrev pub span_on : List ℕ → Interval → Span
span_on es x = record { net = x.net; left = x.left; right = x.right; track = track_on es x }

-- the intervals in their order, each on its track, where the tracks are used up to es before the first
abbrev pub left_edge_from : List ℕ → List Interval → List Span
left_edge_from es [] = []
left_edge_from es (x ∷ xs) = span_on es x ∷ left_edge_from (step es x) xs

-- no track is used before the first
abbrev pub left_edge : List Interval → List Span
left_edge xs = left_edge_from [] xs

-- the greatest track of a list, 0 for none: so many tracks are used
abbrev pub greatest : List Span → ℕ
greatest [] = 0
greatest (x ∷ xs) = max x.track (greatest xs)
