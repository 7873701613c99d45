-- Demands 1 and 2 of one search: what a run that keeps its promise returned and left.
-- Assumes nothing.
use Rattle.std.proofs.Common.{◌≡◌, ℕ, ◌<◌, ◌≤◌, List, length, Ok, Err, Result, sym, refl, ap, ◌∙◌, subst, true≢false, arith, le-ltb, lt-ltb}
use Rattle.channel.specs.Sheet.{Sheet}
use Rattle.channel.specs.Best.{Found, best, Answers}
use Rattle.channel.specs.Best.Found.{none, found}
use Rattle.channel.proofs.Best.{best_answers}
use Rattle.soundness.specs.Read.{read, sheet_of}
use Rattle.soundness.specs.Read.Read.{sound, refused}
use Rattle.soundness.proofs.Laws.{read-sound, read_checked, read-refused}
use Rattle.searched.specs.declared.SearchRefusal.{SearchRefusal}
use Rattle.searched.specs.declared.SearchRefusal.TheVariants as searched
use Rattle.searched.specs.Numbers.{number_of, density_of}
use Rattle.search.specs.Answer.{pins_needed, cells_needed, answer_as, answer_in, searched_of, columns_if}
use Rattle.search.specs.Answer.{columns_after, work_if, work_after, Searches}
use Rattle.search.specs.Returned.{Refuses, LongEnough, Decides, Returned}
use Rattle.search.proofs.Found.{answers-best, is_best, gives, columns-behind}

module _ (bytes columns work columns' work' : List ℕ) (r : Result ℕ SearchRefusal) (searches : Searches bytes columns work columns' work' r) where
  -- the answer is known to be a, by which the buffers go
  module _ (a : Result ℕ SearchRefusal) (e : searched_of bytes (length columns) (length work) ≡ a) where
    answer : r ≡ a
    answer = searches.answer ∙ e

    bytes_after : columns' ≡ columns_if a (sheet_of bytes) columns
    unfolding columns_after
    bytes_after = searches.columns ∙ rw e

    cells-after : work' ≡ work_if a (sheet_of bytes) work
    unfolding work_after
    cells-after = searches.cells ∙ rw e

  -- 1 to 8
  unsound : (n : ℕ) → read bytes ≡ refused n → Refuses n (number_of r) (density_of r) columns work columns' work'
  unfolding searched_of
  unsound n h =
      let (why, checks, number) = read-refused bytes n h in
      let a : Result ℕ SearchRefusal = Err (searched.Sheet why) in
      let e : searched_of bytes (length columns) (length work) ≡ a = rw checks in
      record {
        returned = ap number_of (answer a e) ∙ number;
        carried = ap density_of (answer a e);
        bytes = bytes_after a e;
        cells = cells-after a e;
      }

  module _ (s : Sheet) (h : read bytes ≡ sound s) where
    -- 9
    few_bytes : length columns < pins_needed s → Refuses 9 (number_of r) (density_of r) columns work columns' work'
    unfolding searched_of answer_in
    few_bytes few =
        let (checks, same) = read_checked bytes s h in
        let a : Result ℕ SearchRefusal = (Err searched.Columns) in
        let e : searched_of bytes (length columns) (length work) ≡ a = rw (checks, ← same, lt-ltb _ _ few) in
        record {
          returned = ap number_of (answer a e);
          carried = ap density_of (answer a e);
          bytes = bytes_after a e;
          cells = cells-after a e;
        }

    -- 10
    few_cells :
        pins_needed s ≤ length columns → length work < cells_needed s → Refuses 10 (number_of r) (density_of r) columns work columns' work'
    unfolding searched_of answer_in
    few_cells enough few =
        let (checks, same) = read_checked bytes s h in
        let a : Result ℕ SearchRefusal = (Err searched.Cells) in
        let e : searched_of bytes (length columns) (length work) ≡ a = rw (checks, ← same, le-ltb _ _ enough, lt-ltb _ _ few) in
        record {
          returned = ap number_of (answer a e);
          carried = ap density_of (answer a e);
          bytes = bytes_after a e;
          cells = cells-after a e;
        }

  -- 11 or an assignment: the best one is there or not
  module _ (s : Sheet) (long : LongEnough bytes s (length columns) (length work)) where
    same_sheet : s ≡ sheet_of bytes
    same_sheet = (read_checked bytes s long.reads).1

    by_best : (f : Found) → best s ≡ f → Decides s (number_of r) (density_of r) columns work columns' work'
    by_best none e =
        let a : Result ℕ SearchRefusal = Err searched.NoAssignment in
        let q = answers-best searches long ∙ ap answer_as e in
        let all = subst (Answers s) e (best_answers s (read-sound bytes s long.reads)) in
        record {
          none = (λ eleven. all, λ nothing. ap number_of (answer a q));
          refuses = λ eleven. (ap density_of (answer a q), bytes_after a q);
          gives = λ other. absurd (other (ap number_of (answer a q)));
          cells = rw same_sheet (cells-after a q);
        }
    by_best (found d cs) e =
        let a : Result ℕ SearchRefusal = Ok d in
        let q = answers-best searches long ∙ ap answer_as e in
        let given = gives searches long e in
        record {
          none = (
            λ eleven. absurd (omega (arith, given.returned)),
            λ nothing. absurd (true≢false (sym (is_best searches long e).assignment ∙ nothing cs)),
          );
          refuses = λ eleven. absurd (omega (arith, given.returned));
          gives = λ other. (given, columns-behind searches long e);
          cells = rw same_sheet (cells-after a q);
        }

  pub one_search : Returned bytes columns work columns' work' (number_of r) (density_of r)
  one_search = record { unsound = unsound; few_bytes = few_bytes; few_cells = few_cells; decides = λ s long. by_best s long (best s) refl }
