-- What an answer about tracks leaves of the caller's array: its spans fit, and the rest is as it was.
-- Assumes nothing.
use Rattle.std.proofs.Common.{Result, Ok, Err, ℕ, ◌≤◌, arith, ◌≡◌, refl, ap, ◌∙◌, List, ◌++◌, Bool, true, false, cond, length, drop, length-take, length-take-le, ltb, ltb-false}
use Rattle.channel.specs.Sheet.{Sheet}
use Rattle.channel.specs.Density.{Pin}
use Rattle.soundness.specs.Read.{sheet_of}
use Rattle.left_edge.specs.declared.Span.{Span}
use Rattle.left_edge.specs.Method.{greatest}
use Rattle.left_edge.specs.Spans.{spans_of, two_nets}
use Rattle.list.specs.Answer.{listed_of}
use Rattle.tracked.specs.declared.Counts.{Counts}
use Rattle.tracked.specs.declared.TrackRefusal.{TrackRefusal}
use Rattle.tracked.specs.declared.TrackRefusal.TheVariants.{TwoNets, SpanBuffer}
use Rattle.tracked.specs.declared.Routed.{Routed}
use Rattle.tracked.specs.Numbers.{count_of}
use Rattle.tracked.specs.Routed.{spans_given}
use Rattle.sheet.specs.declared.Layout.{Layout}
use Rattle.refusals.specs.declared.ListRefusal.{ListRefusal}
use Rattle.tracks.specs.Answer.{answer_for, tracked_as, tracked_of, spans_after, Gives}

-- an answer has no more spans than there is room for, and than there are
few_for : (ps : List Pin) (room : ℕ) (xs : List Span)
    → (count_of (answer_for ps room xs) ≤ room) × (count_of (answer_for ps room xs) ≤ length xs)
unfolding answer_for
few_for ps room xs = go (two_nets ps) (ltb room (length xs)) refl
  where
    go : (a b : Bool) → ltb room (length xs) ≡ b
        → let answer : Result Counts TrackRefusal = cond a (Err TwoNets) (cond b (Err SpanBuffer) (Ok (record { nets = length xs; tracks = greatest xs }))) in
        (count_of answer ≤ room) × (count_of answer ≤ length xs)
    go true b e = (omega arith, omega arith)
    go false true e = (omega arith, omega arith)
    go false false e = (ltb-false room (length xs) e, omega arith)

few_as : (s : Sheet) (cs : List ℕ) (room : ℕ) (l : Result Layout ListRefusal)
    → (count_of (tracked_as s cs room l) ≤ room) × (count_of (tracked_as s cs room l) ≤ length (spans_of s cs))
few_as s cs room (Ok n) = few_for _ room (spans_of s cs)
few_as s cs room (Err why) = (omega arith, omega arith)

few : (b cs : List ℕ) (room : ℕ)
    → (count_of (tracked_of b cs room) ≤ room) × (count_of (tracked_of b cs room) ≤ length (spans_of (sheet_of b) cs))
unfolding tracked_of
few b cs room = few_as (sheet_of b) cs room (listed_of b cs)

module _ (b cs : List ℕ) (spans : List Span) (r : Result Routed TrackRefusal)
    (gives : Gives (tracked_of b cs (length spans)) (spans_of (sheet_of b) cs) r) where
  -- its spans fit into the array
  pub spans_fit : length (spans_given r) ≤ length spans
  spans_fit =
      let answer : Result Counts TrackRefusal = tracked_of b cs (length spans) in
      omega (arith, ap (λ (xs : List Span). length xs) gives.1, length-take (count_of answer) (spans_of (sheet_of b) cs), (few b cs (length spans)).0)

  -- with its spans copied into the front it is as it should be
  pub spans_copied : spans_given r ++ drop (length (spans_given r)) spans ≡ spans_after b cs spans
  unfolding spans_after
  spans_copied =
      let answer : Result Counts TrackRefusal = tracked_of b cs (length spans) in
      let xs : List Span = spans_of (sheet_of b) cs in
      let size : length (spans_given r) ≡ count_of answer
      = ap (λ (ys : List Span). length ys) gives.1 ∙ length-take-le (count_of answer) xs (few b cs (length spans)).1 in
      rw (size, gives.1)
