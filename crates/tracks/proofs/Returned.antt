-- What a call for tracks returned and left: the number and the amount of the list's check, 18 or 9, or the spans of the nets.
-- Assumes nothing.
use Rattle.std.proofs.Common.{Result, Ok, Err, ℕ, ◌≡◌, refl, sym, ◌∙◌, ap, subst, List, ◌++◌, Bool, true, false, cond, true≢false, arith, length, take, drop, pos, ltb, ltb-true, ltb-false}
use Rattle.std.proofs.Math.Seq.{take-length}
use Rattle.channel.specs.Sheet.{Sheet, Sound, all_nets}
use Rattle.channel.specs.Assignment.{is_assignment}
use Rattle.channel.specs.Density.{Pin, pins, nets_of}
use Rattle.refusals.proofs.Refused.{list_number_some}
use Rattle.soundness.specs.Read.{sheet_of}
use Rattle.soundness.proofs.Laws.{read_checked, read-sound}
use Rattle.left_edge.specs.declared.Span.{Span}
use Rattle.left_edge.specs.Method.{greatest}
use Rattle.left_edge.specs.Spans.{spans_of, two_nets}
use Rattle.left_edge.proofs.Routes.{span-ends, nets-length, assignment_routes, assignment_tracks}
use Rattle.list.specs.Answer.{listed_of}
use Rattle.list.specs.Returned as list
use Rattle.list.proofs.Returned.{one_list}
use Rattle.list.proofs.Laws.{assigns}
use Rattle.tracked.specs.declared.Counts.{Counts}
use Rattle.tracked.specs.declared.TrackRefusal.{TrackRefusal}
use Rattle.tracked.specs.declared.TrackRefusal.TheVariants.{Listed, TwoNets, SpanBuffer}
use Rattle.tracked.specs.Numbers.{number_of, count_of, tracks_of, amount_of}
use Rattle.tracks.specs.Answer.{answer_for, tracked_as, tracked_of, spans_with, spans_after}
use Rattle.sheet.specs.declared.Layout.{Layout}
use Rattle.refusals.specs.declared.ListRefusal.{ListRefusal}
use Rattle.tracks.specs.Returned.{Decides, Returned}

-- of an assignment of a sound sheet
module _ (s : Sheet) (is : Sound s) (cs : List ℕ) (ok : is_assignment s cs ≡ true) (spans spans' : List Span) where
  abbrev ps : List Pin
  ps = pins (s.top ++ s.bottom) cs

  abbrev xs : List Span
  xs = spans_of s cs

  decided :
      (answer : Result Counts TrackRefusal) → answer ≡ answer_for ps (length spans) xs → spans' ≡ spans_with answer xs ++ drop (count_of answer) spans
      → Decides s cs spans spans' (number_of answer) (count_of answer) (tracks_of answer)
  unfolding answer_for
  decided answer e after =
      subst (λ (a : Result Counts TrackRefusal). Decides s cs spans spans' (number_of a) (count_of a) (tracks_of a)) (sym e)
      (go (two_nets ps) refl (ltb (length spans) (length xs)) refl
      (after ∙ ap (λ (a : Result Counts TrackRefusal). spans_with a xs ++ drop (count_of a) spans) e))
    where
      count : length xs ≡ length (nets_of s)
      count = nets-length s cs

      go : (a : Bool) → two_nets ps ≡ a → (b : Bool) → ltb (length spans) (length xs) ≡ b
          → let due : Result Counts TrackRefusal = cond a (Err TwoNets) (cond b (Err SpanBuffer) (Ok (record { nets = length xs; tracks = greatest xs }))) in
          spans' ≡ spans_with due xs ++ drop (count_of due) spans → Decides s cs spans spans' (number_of due) (count_of due) (tracks_of due)
      go true e b d left = record {
        two = λ _. refl;
        short = λ q _. absurd (true≢false (sym e ∙ q));
        clean = λ q _. absurd (true≢false (sym e ∙ q));
        count = λ z. absurd (omega arith);
        spanned = λ z. absurd (omega arith);
      }
      go false e true d left = record {
        two = λ q. absurd (true≢false (sym q ∙ e));
        short = λ _ _. refl;
        clean = λ _ q. absurd (omega (arith, ltb-true (length spans) (length xs) d, count));
        count = λ z. absurd (omega arith);
        spanned = λ z. absurd (omega arith);
      }
      go false e false d left = record {
        two = λ q. absurd (true≢false (sym q ∙ e));
        short = λ _ q. absurd (omega (arith, ltb-false (length spans) (length xs) d, count));
        clean = λ _ _. refl;
        count = λ _. count;
        spanned =
            λ _. (
              xs,
              (
                record {
                  routes = assignment_routes s is cs ok;
                  ends = span-ends ps (all_nets s) s.mark s.columns;
                  density = assignment_tracks s is cs ok;
                },
                (refl, left ∙ ap (λ (ys : List Span). ys ++ drop (length xs) spans) (take-length xs)),
              ),
            );
      }

-- what a refusal carries
refused_none : (answer : Result Counts TrackRefusal) → (number_of answer ≡ 0 → ⊥) → (count_of answer ≡ 0) × (tracks_of answer ≡ 0)
refused_none (Ok counts) h = absurd (h refl)
refused_none (Err (Listed why)) h = (refl, refl)
refused_none (Err TwoNets) h = (refl, refl)
refused_none (Err SpanBuffer) h = (refl, refl)

same_amount : (s : Sheet) (cs : List ℕ) (room : ℕ) (l : Result Layout ListRefusal) → amount_of (tracked_as s cs room l) ≡ list.amount_of l
unfolding answer_for
same_amount s cs room (Ok n) = go (two_nets (pins (s.top ++ s.bottom) cs)) (ltb room (length (spans_of s cs)))
  where
    go : (a b : Bool) → amount_of (cond a (Err TwoNets) (cond b (Err SpanBuffer) (Ok (record { nets = length (spans_of s cs); tracks = greatest (spans_of s cs) })))) ≡ pos 0
    go true b = refl
    go false true = refl
    go false false = refl
same_amount s cs room (Err why) = refl

first-number :
    (s : Sheet) (cs : List ℕ) (room : ℕ) (l : Result Layout ListRefusal) → (list.number_of l ≡ 0 → ⊥) → number_of (tracked_as s cs room l) ≡ list.number_of l
first-number s cs room (Ok n) h = absurd (h refl)
first-number s cs room (Err why) h = refl

module _ (bytes columns : List ℕ) (spans spans' : List Span) (answer : Result Counts TrackRefusal) (is : answer ≡ tracked_of bytes columns (length spans))
    (after : spans' ≡ spans_after bytes columns spans) where
  -- the caller's array at exit, by the answer
  left : spans' ≡ spans_with answer (spans_of (sheet_of bytes) columns) ++ drop (count_of answer) spans
  unfolding spans_after
  left = after ∙ ap (λ (a : Result Counts TrackRefusal). spans_with a (spans_of (sheet_of bytes) columns) ++ drop (count_of a) spans) (sym is)

  decides_sheet :
      (l : Result Layout ListRefusal) → listed_of bytes columns ≡ l → list.number_of l ≡ 0
      → Decides (sheet_of bytes) columns spans spans' (number_of answer) (count_of answer) (tracks_of answer)
  unfolding tracked_of
  decides_sheet (Ok n) e z =
      let laws = assigns bytes columns n e in
      decided (sheet_of bytes) (read-sound bytes (sheet_of bytes) laws.opens.reads) columns laws.assigned spans spans' answer
      (is ∙ ap (tracked_as (sheet_of bytes) columns (length spans)) e) left
  decides_sheet (Err why) e z = absurd (list_number_some why z)

  -- all that document 02 asks of one call
  pub one_routing : Returned bytes columns spans spans' (number_of answer) (count_of answer) (tracks_of answer) (amount_of answer)
  unfolding tracked_of
  one_routing = record {
    checked = list.number_of (listed_of bytes columns);
    listed =
        rw (is, same_amount (sheet_of bytes) columns (length spans) (listed_of bytes columns))
        (one_list bytes columns (listed_of bytes columns) refl);
    first = λ h. ap number_of is ∙ first-number (sheet_of bytes) columns (length spans) (listed_of bytes columns) h;
    decides =
        λ s h z. subst (λ (t : Sheet). Decides t columns spans spans' (number_of answer) (count_of answer) (tracks_of answer))
        (sym (read_checked bytes s h).1) (decides_sheet (listed_of bytes columns) refl z);
    refused =
        λ h.
        let (count, tracks) = refused_none answer h in
        (count, tracks, left ∙ ap (λ (k : ℕ). take k (spans_of (sheet_of bytes) columns) ++ drop k spans) count);
  }
