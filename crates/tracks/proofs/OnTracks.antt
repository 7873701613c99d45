-- The loop that puts intervals on tracks one after the other.
-- Assumes nothing.
use Rattle.std.proofs.Common.{◌≡◌, ℕ, zero, suc, ◌+◌, ◌≤◌, ◌<◌, max, List, [], ◌∷◌, ◌++◌, map, length, get_or, drop, replicate, refl, sym, ap, ◌∙◌, arith, append_assoc, append-nil, length-append, drop_of_length-le}
use Rattle.nets.proofs.Lists.{drop-next}
use Rattle.left_edge.specs.declared.Interval.{Interval}
use Rattle.left_edge.specs.declared.Span.{Span}
use Rattle.left_edge.specs.Lists.{Each}
use Rattle.left_edge.specs.Method.{passed, track_on, step, span_on, left_edge_from, left_edge, greatest}
use Rattle.left_edge.proofs.Lists.{each_image}
use Rattle.order.specs.Keys.{interval_at}
use Rattle.tracks.proofs.Free.{Unused, unused_zeros, passed_unused, step_unused, length-step, edge_zeros}

-- an interval of a key that begins in column 1 or right of it
abbrev Starts : ℕ → Type 0
Starts k = 1 ≤ (interval_at k).left

each_at : (P : ℕ → Type 0) (ks : List ℕ) (i : ℕ) → Each P ks → i < length ks → P (get_or ks i 0)
each_at P [] i h k = absurd (omega arith)
each_at P (x ∷ ks) zero h k = h.0
each_at P (x ∷ ks) (suc i) h k = each_at P ks i h.1 (omega arith)

module _ (keys : List ℕ) where
  -- all of the spans; and those that the intervals from the i-th on get, where the tracks are used up to es
  abbrev whole : List Span
  whole = left_edge (map interval_at keys)

  abbrev rest : List ℕ → ℕ → List Span
  rest es i = left_edge_from es (map interval_at (drop i keys))

  -- Of i intervals that are on their tracks: their spans with those of the others are all, and so are their tracks with those of the
  -- others. The tracks from the i-th on are not used
  pub record OnTracks (spans : List Span) (es : List ℕ) (tracks i : ℕ) : Type 0 where
    pub count : length spans ≡ i
    pub slots : length es ≡ 128
    pub unused : Unused i es
    pub front : spans ++ rest es i ≡ whole
    pub most : max tracks (greatest (rest es i)) ≡ greatest whole

module _ (keys : List ℕ) (few : length keys ≤ 128) (begin : Each Starts keys) where
  -- none at first
  pub on_none : OnTracks keys [] (replicate 128 0) 0 0
  on_none =
      let all : rest keys (replicate 128 0) 0 ≡ whole keys =
      edge_zeros 128 (map interval_at keys) (each_image interval_at (λ (x : Interval). 1 ≤ x.left) keys begin) in
      record { count = refl; slots = refl; unused = unused_zeros 128; front = all; most = omega (arith, ap greatest all) }

  module _ {spans : List Span} {es : List ℕ} {tracks i : ℕ} (done : OnTracks keys spans es tracks i) where
    -- one more
    module _ (inside : i < length keys) (x : Interval) (its : x ≡ interval_at (get_or keys i 0)) where
      begins : 1 ≤ x.left
      begins = rw its (each_at Starts keys i begin inside)

      pub free : passed es x.left < length es
      free = omega (arith, passed_unused i es done.unused x.left begins, done.slots)

      next : rest keys es i ≡ span_on es x ∷ rest keys (step es x) (i + 1)
      next = rw (drop-next keys i 0 inside, its)

      pub on-next : OnTracks keys (spans ++ span_on es x ∷ []) (step es x) (max tracks (track_on es x)) (i + 1)
      on-next = record {
        count = length-append spans (span_on es x ∷ []) ∙ omega (arith, done.count);
        slots = length-step es x free ∙ done.slots;
        unused = step_unused i es done.unused x begins;
        front = append_assoc spans (span_on es x ∷ []) (rest keys (step es x) (i + 1)) ∙ ap (λ (r : List Span). spans ++ r) (sym next) ∙ done.front;
        most = omega (arith, done.most, ap greatest next);
      }

    -- all at last
    pub on-all : i ≡ length keys → (spans ≡ whole keys) × (tracks ≡ greatest (whole keys))
    on-all h =
        let past : length keys ≤ i = omega arith in
        let none : rest keys es i ≡ [] = rw (drop_of_length-le keys past) in (
          sym (append-nil spans) ∙ rw none at done.front,
          omega (arith, done.most, ap greatest none),
        )
