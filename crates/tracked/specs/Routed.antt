-- An answer about tracks that has its spans with it.
-- Assumes nothing.
use Rattle.std.specs.Prelude.{ℕ, List, [], ◌++◌, length, take, drop, replicate, Result, Ok, Err}
use Rattle.left_edge.specs.declared.Span.{Span}
use Rattle.tracked.specs.declared.Counts.{Counts}
use Rattle.tracked.specs.declared.Routed.{Routed}
use Rattle.tracked.specs.declared.TrackRefusal.{TrackRefusal}

abbrev pub counts_of : Routed → Counts
counts_of routed = record { nets = routed.nets; tracks = routed.tracks }

-- the spans of its nets
abbrev pub given_of : Routed → List Span
given_of routed = take routed.nets routed.spans

-- an array without spans
abbrev pub no_spans : List Span
no_spans = replicate 128 (record { net = 0; left = 0; right = 0; track = 0 })

-- the answer with these spans in front of such an array
abbrev pub routed_with : List Span → ℕ → Routed
routed_with xs tracks = record { spans = xs ++ drop (length xs) no_spans; nets = length xs; tracks = tracks }

-- the numbers of an answer that has its spans with it, these spans, none with a refusal, and the array that holds them
abbrev pub counts_in : Result Routed TrackRefusal → Result Counts TrackRefusal
counts_in (Ok routed) = Ok (counts_of routed)
counts_in (Err why) = Err why

abbrev pub spans_given : Result Routed TrackRefusal → List Span
spans_given (Ok routed) = given_of routed
spans_given (Err why) = []

abbrev pub array_in : Result Routed TrackRefusal → List Span
array_in (Ok routed) = routed.spans
array_in (Err why) = no_spans

-- the answer with spans that lie beside it
abbrev pub routed_of : List Span → Result ℕ TrackRefusal → Result Routed TrackRefusal
routed_of spans (Ok tracks) = Ok (routed_with spans tracks)
routed_of spans (Err why) = Err why
