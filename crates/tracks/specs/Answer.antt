-- What the tracks of a column list are, or why there are none (document 02, T-04).
-- Assumes nothing.
use Rattle.std.specs.Prelude.{ℕ, ◌≡◌, List, ◌++◌, cond, length, take, drop, ltb, Result, Ok, Err}
use Rattle.mark.specs.declared.Mark.{Mark}
use Rattle.channel.specs.Sheet.{Sheet, all_nets}
use Rattle.channel.specs.Density.{Pin, pins}
use Rattle.soundness.specs.Read.{sheet_of}
use Rattle.left_edge.specs.declared.Span.{Span}
use Rattle.left_edge.specs.Method.{greatest}
use Rattle.left_edge.specs.Spans.{spans_in, spans_of, two_nets}
use Rattle.list.specs.Answer.{listed_of}
use Rattle.tracked.specs.declared.Counts.{Counts}
use Rattle.tracked.specs.declared.TrackRefusal.{TrackRefusal}
use Rattle.tracked.specs.declared.TrackRefusal.TheVariants.{Listed, TwoNets, SpanBuffer}
use Rattle.tracked.specs.declared.Routed.{Routed}
use Rattle.sheet.specs.declared.Layout.{Layout}
use Rattle.refusals.specs.declared.ListRefusal.{ListRefusal}
use Rattle.tracked.specs.Numbers.{count_of}
use Rattle.tracked.specs.Routed.{counts_in, spans_given, array_in, no_spans}

-- "18 .. when a column has pins of two nets; then 9 when the array holds fewer records than there are nets"; else the numbers of nets and
-- of tracks
unfoldable pub answer_for : List Pin → ℕ → List Span → Result Counts TrackRefusal
answer_for ps room xs =
    cond (two_nets ps) (Err TwoNets)
    (cond (ltb room (length xs)) (Err SpanBuffer) (Ok (record { nets = length xs; tracks = greatest xs })))

-- "18, after 14"
abbrev pub tracked_as : Sheet → List ℕ → ℕ → Result Layout ListRefusal → Result Counts TrackRefusal
tracked_as s cs room (Ok n) = answer_for (pins (s.top ++ s.bottom) cs) room (spans_of s cs)
tracked_as s cs room (Err why) = Err (Listed why)

-- of a sheet's bytes, a column list and room for so many records
unfoldable pub tracked_of : List ℕ → List ℕ → ℕ → Result Counts TrackRefusal
tracked_of b cs room = tracked_as (sheet_of b) cs room (listed_of b cs)

-- the spans that come with an answer: all of them, or none with a refusal
abbrev pub spans_with : Result Counts TrackRefusal → List Span → List Span
spans_with answer xs = take (count_of answer) xs

-- "later records are unchanged"; "a refusal leaves the array unchanged": the caller's array at exit
unfoldable pub spans_after : List ℕ → List ℕ → List Span → List Span
spans_after b cs spans =
    let answer : Result Counts TrackRefusal = tracked_of b cs (length spans) in
    spans_with answer (spans_of (sheet_of b) cs) ++ drop (count_of answer) spans

-- this answer, with its spans, in front of an array that has none
abbrev pub Gives : Result Counts TrackRefusal → List Span → Result Routed TrackRefusal → Type 0
Gives answer xs r =
    (counts_in r ≡ answer) × (spans_given r ≡ spans_with answer xs) × (array_in r ≡ spans_with answer xs ++ drop (count_of answer) no_spans)

-- what is due under a mark of pins and their nets on a channel of l columns, with room for so many records
abbrev pub GivesIn : Mark → ℕ → List Pin → List ℕ → ℕ → Result Routed TrackRefusal → Type 0
GivesIn m l ps ns room r = Gives (answer_for ps room (spans_in m l ps ns)) (spans_in m l ps ns) r

-- of an assignment of a sheet
abbrev pub GivesFor : Sheet → List ℕ → ℕ → Result Routed TrackRefusal → Type 0
GivesFor s cs room r = GivesIn s.mark s.columns (pins (s.top ++ s.bottom) cs) (all_nets s) room r
