-- Why the search keeps its promise: each way out of it, from what its calls answered.
-- Assumes nothing.
use Rattle.std.proofs.Common.{◌≡◌, ℕ, ◌<◌, ◌≤◌, List, length, Some, None, Ok, Err, Option, Result, sym, refl, ap, ◌∙◌, arith, le-ltb, lt-ltb}
use Rattle.std.specs.Option.{ok_or}
use Rattle.channel.specs.Sheet.{Sheet}
use Rattle.channel.specs.Best.{Found, best}
use Rattle.channel.specs.Best.Found.{none, found}
use Rattle.refusals.specs.declared.Refusal.{Refusal}
use Rattle.soundness.specs.Read.{sheet_of}
use Rattle.sheet.specs.declared.Layout.{Layout}
use Rattle.sheet.specs.declared.Shape.{Shape}
use Rattle.sheet.specs.Parts.{opened_of}
use Rattle.sheet.specs.declared.Sections.{Sections}
use Rattle.sheet.specs.Sections.{Held, sheet_held}
use Rattle.std.specs.Borrow.{Bor}
use Rattle.soundness.proofs.Laws.{read-sound}
use Rattle.sheet.proofs.Laws.{opened_refused, Opens, opens, held_sheet, held_shape}
use Rattle.searched.specs.declared.SearchRefusal.{SearchRefusal}
use Rattle.searched.specs.declared.SearchRefusal.TheVariants as searched
use Rattle.search.specs.Answer.{pins_needed, cells_needed, answer_as, answer_in, answer_if, searched_of}
use Rattle.search.specs.Answer.{columns_if, columns_after, work_if, work_after, Searches}
use Rattle.solve.specs.Buffers.{with_columns, cleared}
use Rattle.solve.specs.Solved.{AsksSolve, outcome_of, Solved}

module _ (s : Bor (List ℕ)) (columns work : List ℕ) where
  abbrev b : List ℕ
  b = s.now

  -- the buffers go by the answer
  answered :
      (columns' work' : List ℕ) (r : Result ℕ SearchRefusal) → r ≡ searched_of b (length columns) (length work)
      → columns' ≡ columns_if r (sheet_of b) columns → work' ≡ work_if r (sheet_of b) work → Searches b columns work columns' work' r
  unfolding columns_after work_after
  answered columns' work' r e c w =
      record {
        answer = e;
        columns = c ∙ ap (λ (k : Result ℕ SearchRefusal). columns_if k (sheet_of b) columns) e;
        cells = w ∙ ap (λ (k : Result ℕ SearchRefusal). work_if k (sheet_of b) work) e;
      }

  -- 1 to 8
  pub answers_sheet : (why : Refusal) → opened_of b ≡ Err why → Searches b columns work columns work (Err (searched.Sheet why))
  unfolding searched_of
  answers_sheet why e = answered columns work _ (rw (opened_refused b why e)) refl refl

  -- a sheet that opens, with its layout
  module _ (layout : Layout) (opening : opened_of b ≡ Ok layout) where
    laws : Opens b layout
    laws = opens b layout opening

    abbrev n : Shape
    n = layout.shape

    answers : (k m : ℕ) → searched_of b k m ≡ answer_in (sheet_of b) k m
    unfolding searched_of
    answers k m = ap (λ (r : Result Unit Refusal). answer_if r (sheet_of b) k m) laws.checks

    pins : n.pins ≡ pins_needed (sheet_of b)
    pins = ap (λ (k : Shape). k.pins) laws.shape

    cells : n.cells ≡ cells_needed (sheet_of b)
    cells = ap (λ (k : Shape). k.cells) laws.shape

    -- 9 and 10
    pub answers-columns : length columns < n.pins → Searches b columns work columns work (Err searched.Columns)
    unfolding answer_in
    answers-columns h =
        let less : length columns < pins_needed (sheet_of b) = rw pins at h in
        answered columns work _ (sym (answers _ _ ∙ rw (lt-ltb _ _ less))) refl refl

    pub answers-cells : n.pins ≤ length columns → length work < n.cells → Searches b columns work columns work (Err searched.Cells)
    unfolding answer_in
    answers-cells g h =
        let less : length work < cells_needed (sheet_of b) = rw cells at h in
        let enough : pins_needed (sheet_of b) ≤ length columns = rw pins at g in
        answered columns work _ (sym (answers _ _ ∙ rw (le-ltb _ _ enough, lt-ltb _ _ less))) refl refl

    -- the sections are those of the sheet
    module _ (m : Sections) (held : Held s layout m) where
      same : sheet_held m ≡ sheet_of b
      same = held_sheet s layout laws m held

      pub solve-asked : n.pins ≤ length columns → n.cells ≤ length work → AsksSolve m (length columns) (length work)
      solve-asked g h =
          record {
            sound = rw same (read-sound b (sheet_of b) laws.reads);
            numbers = held_shape s layout laws m held;
            pins = rw held.shape g;
            cells = rw held.shape h;
          }

      -- the least density or 11
      module _ (g : n.pins ≤ length columns) (h : n.cells ≤ length work) (columns' work' : List ℕ) (r : Option ℕ)
          (solved : Solved m columns columns' work work' r)
        where
          written : columns' ≡ with_columns (best (sheet_of b)) columns
          written = solved.written ∙ ap (λ (s : Sheet). with_columns (best s) columns) same

          zeros : work' ≡ cleared (cells_needed (sheet_of b)) work
          zeros = solved.cells ∙ ap (λ (k : ℕ). cleared k work) (ap (λ (k : Shape). k.cells) held.shape ∙ cells)

          enough : searched_of b (length columns) (length work) ≡ answer_as (best (sheet_of b))
          unfolding answer_in
          enough =
              let a : pins_needed (sheet_of b) ≤ length columns = rw pins at g in
              let c : cells_needed (sheet_of b) ≤ length work = rw cells at h in
              answers _ _ ∙ rw (le-ltb _ _ a, le-ltb _ _ c)

          found-one : (d : ℕ) → r ≡ Some d → answer_as (best (sheet_of b)) ≡ Ok d
          found-one d e = by_best (best (sheet_of b)) (sym (solved.outcome ∙ ap (λ (s : Sheet). outcome_of (best s)) same) ∙ e)
            where
              by_best : (f : Found) → outcome_of f ≡ Some d → answer_as f ≡ Ok d
              by_best none q = let z : ◌≡◌ {A = ℕ} 0 1 = cc in absurd (omega arith)
              by_best (found k cs) q = let z : k ≡ d = cc in ap Ok z

          found_none : r ≡ None → best (sheet_of b) ≡ none
          found_none e = by_best (best (sheet_of b)) (sym (solved.outcome ∙ ap (λ (s : Sheet). outcome_of (best s)) same) ∙ e)
            where
              by_best : (f : Found) → outcome_of f ≡ None → f ≡ none
              by_best none q = refl
              by_best (found k cs) q = let z : ◌≡◌ {A = ℕ} 0 1 = cc in absurd (omega arith)

          answers-found : (d : ℕ) → r ≡ Some d → Searches b columns work columns' work' (Ok d)
          answers-found d e = answered columns' work' _ (sym (enough ∙ found-one d e)) written zeros

          answers-none : r ≡ None → Searches b columns work columns' work' (Err searched.NoAssignment)
          answers-none e =
              answered columns' work' _ (sym (enough ∙ ap answer_as (found_none e)))
              (written ∙ ap (λ (f : Found). with_columns f columns) (found_none e)) zeros

          pub answers-solved : Searches b columns work columns' work' (ok_or r searched.NoAssignment)
          answers-solved = by_found r refl
            where
              by_found : (o : Option ℕ) → r ≡ o → Searches b columns work columns' work' (ok_or o searched.NoAssignment)
              by_found (Some d) e = answers-found d e
              by_found None e = answers-none e
