-- Tracks, from what the list's check and the routing of an assignment answer.
-- Assumes nothing.
use Rattle.std.proofs.Common.{arith, Result, Err, ◌≡◌, ℕ, List, [], sym, ap, subst}
use Rattle.std.specs.Borrow.{Bor}
use Rattle.channel.specs.Sheet.{Sheet}
use Rattle.refusals.specs.declared.ListRefusal.{ListRefusal}
use Rattle.soundness.specs.Read.{sheet_of}
use Rattle.soundness.proofs.Laws.{read-sound}
use Rattle.sheet.specs.Sections.{sheet_held}
use Rattle.left_edge.specs.Lists.{Each}
use Rattle.left_edge.specs.Spans.{spans_of}
use Rattle.left_edge.proofs.Ends.{Inside}
use Rattle.left_edge.proofs.Routes.{assignment_inside}
use Rattle.order.specs.Keys.{Columns}
use Rattle.list.specs.Answer.{listed_of}
use Rattle.list.specs.declared.listed.ListedSheet.{ListedSheet}
use Rattle.list.proofs.Laws.{Given}
use Rattle.tracked.specs.declared.TrackRefusal.{TrackRefusal}
use Rattle.tracked.specs.declared.TrackRefusal.TheVariants.{Listed}
use Rattle.tracked.specs.declared.Routed.{Routed}
use Rattle.tracked.specs.Routed.{counts_in, spans_given, array_in, no_spans}
use Rattle.tracks.specs.Answer.{tracked_of, Gives, GivesFor}

pub list_refused :
    (b cs : List ℕ) (room : ℕ) (why : ListRefusal) → listed_of b cs ≡ Err why → (r : Result Routed TrackRefusal)
    → (counts_in r ≡ Err (Listed why)) × (spans_given r ≡ []) × (array_in r ≡ no_spans)
    → Gives (tracked_of b cs room) (spans_of (sheet_of b) cs) r
unfolding tracked_of
list_refused b cs room why e r answer = rw e answer

-- an assignment, beside the sections of its sheet
module _ (s columns : Bor (List ℕ)) (m : ListedSheet) (came : Given s columns m) where
  own : m.columns.now ≡ columns.now
  own = ap (λ (b : Bor (List ℕ)). b.now) came.own

  pub laid : Columns m.columns.now m.sections.shape.columns
  laid =
      let sound = read-sound s.now (sheet_of s.now) came.laws.opens.reads in
      let length = ap (λ (t : Sheet). t.columns) came.same in
      rw own
      (record {
        short = omega (arith, length, sound.columns);
        some = omega (arith, length, sound.columns);
        inside =
            subst (λ (l : ℕ). Each (Inside l) columns.now) (sym length)
            (assignment_inside (sheet_of s.now) sound columns.now came.laws.assigned);
      })

  pub tracks_given :
      (room : ℕ) (r : Result Routed TrackRefusal) → GivesFor (sheet_held m.sections) m.columns.now room r
      → Gives (tracked_of s.now columns.now room) (spans_of (sheet_of s.now) columns.now) r
  unfolding tracked_of
  tracks_given room r routed =
      rw came.answer
      (subst (λ (t : Sheet). GivesFor t columns.now room r) came.same
      (subst (λ (cs : List ℕ). GivesFor (sheet_held m.sections) cs room r) own routed))
