-- Which answer about tracks is due.
-- Assumes nothing.
use Rattle.std.proofs.Common.{Result, Ok, Err, ℕ, ◌≤◌, ◌<◌, ◌≡◌, sym, ap, ◌∙◌, List, [], ◌++◌, map, drop, true, false, arith, length, lt-ltb, le-ltb}
use Rattle.std.proofs.Math.ListN.{length-map}
use Rattle.std.proofs.Math.Seq.{take-length}
use Rattle.tracked.specs.declared.TrackRefusal.{TrackRefusal}
use Rattle.mark.specs.declared.Mark.{Mark}
use Rattle.channel.specs.Density.{Pin, straight, distinct}
use Rattle.channel.proofs.Spans.{length-distinct}
use Rattle.left_edge.specs.declared.Span.{Span}
use Rattle.left_edge.specs.Method.{left_edge, greatest}
use Rattle.left_edge.specs.Spans.{left_end, interval_of, spans_in, nets_by_left, two_nets}
use Rattle.left_edge.proofs.Order.{length-in_order}
use Rattle.left_edge.proofs.Routes.{spans-length}
use Rattle.order.specs.Keys.{key_in, keys_by_left, interval_at}
use Rattle.tracked.specs.declared.TrackRefusal.TheVariants.{TwoNets, SpanBuffer}
use Rattle.tracked.specs.declared.Routed.{Routed}
use Rattle.tracked.specs.Routed.{counts_in, spans_given, array_in, no_spans}
use Rattle.tracks.specs.Answer.{answer_for, Gives}

module _ (ps : List Pin) (room : ℕ) (xs : List Span) (r : Result Routed TrackRefusal) where
  pub gives_two_nets : two_nets ps ≡ true → (counts_in r ≡ Err TwoNets) × (spans_given r ≡ []) × (array_in r ≡ no_spans)
      → Gives (answer_for ps room xs) xs r
  unfolding answer_for
  gives_two_nets two e = rw two e

  module _ (one : two_nets ps ≡ false) where
    pub gives-short : room < length xs → (counts_in r ≡ Err SpanBuffer) × (spans_given r ≡ []) × (array_in r ≡ no_spans)
        → Gives (answer_for ps room xs) xs r
    unfolding answer_for
    gives-short h e = rw (one, lt-ltb room (length xs) h) e

    pub gives-tracks :
        length xs ≤ room → counts_in r ≡ Ok (record { nets = length xs; tracks = greatest xs }) → spans_given r ≡ xs
        → array_in r ≡ xs ++ drop (length xs) no_spans → Gives (answer_for ps room xs) xs r
    unfolding answer_for
    gives-tracks h e spans array = rw (one, le-ltb room (length xs) h) (e, rw (take-length xs) spans, rw (take-length xs) array)

-- the keys of the nets in order, and the spans that they stand for
module _ (m : Mark) (l : ℕ) (ps : List Pin) (ns keys : List ℕ) where
  pub keys_spans :
      map interval_at keys ≡ map (interval_of (straight m ns) l ps) (nets_by_left ps ns) → left_edge (map interval_at keys) ≡ spans_in m l ps ns
  unfolding spans_in
  keys_spans e = ap left_edge e

  pub keys_count : keys ≡ keys_by_left m l ps ns → (length keys ≡ length (spans_in m l ps ns)) × (length keys ≤ length ns)
  keys_count e =
      let all = length-map (nets_by_left ps ns) (key_in (straight m ns) l ps) ∙ length-in_order (left_end ps) (distinct ns) in
      let spans = spans-length ps ns m l in
      (ap (λ (ks : List ℕ). length ks) e ∙ all ∙ sym spans, omega (arith, ap (λ (ks : List ℕ). length ks) e, all, length-distinct ns))
