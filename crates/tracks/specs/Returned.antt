-- Document 02, T-04, of one call, in the numbers of the refusal list: of the number that it returned, 0 with tracks, of the numbers of nets
-- and of tracks and the amount that came with it, and of the caller's array before and after.
-- Assumes nothing.
use Rattle.std.specs.Prelude.{ℕ, ◌≤◌, ◌<◌, ◌≡◌, List, ◌++◌, true, false, length, drop, ℤ}
use Rattle.channel.specs.Sheet.{Sheet, all_nets}
use Rattle.channel.specs.Density.{Pin, pins, straight_in, crosses, nets_of, density}
use Rattle.soundness.specs.Read.{read}
use Rattle.soundness.specs.Read.Read.{sound}
use Rattle.left_edge.specs.declared.Span.{Span}
use Rattle.left_edge.specs.Lists.{Each}
use Rattle.left_edge.specs.Spans.{left_end, right_end, nets_by_left, two_nets}
use Rattle.left_edge.specs.Routes.{Routes}
use Rattle.list.specs.Returned as list

-- the spans of an assignment's nets: by left end, then net number, each with its net's ends, on tracks as the left-edge method gives them,
-- "exactly as many tracks as the density"
pub record Spanned (s : Sheet) (columns : List ℕ) (xs : List Span) (tracks : ℕ) : Type 0 where
  pub routes :
      let ps : List Pin = pins (s.top ++ s.bottom) columns in
      Routes s.columns (crosses (straight_in s) ps) (nets_by_left ps (all_nets s)) xs
  pub ends :
      let ps : List Pin = pins (s.top ++ s.bottom) columns in
      Each (λ (x : Span). (x.left ≡ left_end ps x.net) × (x.right ≡ right_end s.columns ps x.net)) xs
  pub density : tracks ≡ density s columns

-- an assignment of a sound sheet: 18, then 9, each the first that applies; else, and only then, a span for each net in the front of the
-- array, and the rest unchanged
pub record Decides (s : Sheet) (columns : List ℕ) (spans spans' : List Span) (number nets tracks : ℕ) : Type 0 where
  pub two : two_nets (pins (s.top ++ s.bottom) columns) ≡ true → number ≡ 18
  pub short : two_nets (pins (s.top ++ s.bottom) columns) ≡ false → length spans < length (nets_of s) → number ≡ 9
  pub clean : two_nets (pins (s.top ++ s.bottom) columns) ≡ false → length (nets_of s) ≤ length spans → number ≡ 0
  pub count : number ≡ 0 → nets ≡ length (nets_of s)
  pub spanned :
      number ≡ 0 → (xs : List Span) × (Spanned s columns xs tracks × ((length xs ≡ nets) × (spans' ≡ xs ++ drop nets spans)))

-- all of it: the number and the amount of the list's check come first; "a refusal leaves the array unchanged" and carries 0 nets and 0
-- tracks
pub record Returned (bytes columns : List ℕ) (spans spans' : List Span) (number nets tracks : ℕ) (amount : ℤ) : Type 0 where
  pub checked : ℕ
  pub listed : list.Returned bytes columns checked amount
  pub first : (checked ≡ 0 → ⊥) → number ≡ checked
  pub decides : (s : Sheet) → read bytes ≡ sound s → checked ≡ 0 → Decides s columns spans spans' number nets tracks
  pub refused : (number ≡ 0 → ⊥) → (nets ≡ 0) × (tracks ≡ 0) × (spans' ≡ spans)
