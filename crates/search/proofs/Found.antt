-- What a search that found an assignment found: the best one of a sound sheet, with its columns in front of the column buffer.
-- Assumes nothing.
use Rattle.std.proofs.Common.{◌≡◌, ℕ, ◌+◌, Bool, true, false, cond, ltb, List, ◌++◌, length, take, drop, Ok, Err, Result, sym, refl, ap, ◌∙◌, subst, ap₂, arith, length-append, take-append-drop, take_at, drop_at, ltb-false, le-ltb}
use Rattle.channel.specs.Sheet.{Sheet}
use Rattle.channel.specs.Assignment.{is_assignment, top_columns, bottom_columns}
use Rattle.channel.specs.Best.{Found, best, IsBest, Answers}
use Rattle.channel.specs.Best.Found.{none, found}
use Rattle.channel.proofs.Best.{best_answers}
use Rattle.channel.proofs.Assignments.{fits_lengths}
use Rattle.soundness.specs.Check.{check_of}
use Rattle.soundness.specs.Read.{read, sheet_of}
use Rattle.soundness.specs.Read.Read.{sound}
use Rattle.soundness.proofs.Laws.{read_checked, read-sound, sound-read}
use Rattle.searched.specs.declared.SearchRefusal.{SearchRefusal}
use Rattle.searched.specs.declared.SearchRefusal.TheVariants as searched
use Rattle.searched.specs.Numbers.{number_of, density_of}
use Rattle.search.specs.Answer.{pins_needed, cells_needed, answer_as, answer_in, answer_if}
use Rattle.search.specs.Answer.{searched_of, columns_after, Searches}
use Rattle.refusals.specs.declared.Refusal.{Refusal}
use Rattle.search.specs.Returned.{Gives, LongEnough}

-- an assignment has a column for each terminal
assignment_length : (s : Sheet) (es : List ℕ) → is_assignment s es ≡ true → length es ≡ pins_needed s
unfolding is_assignment top_columns bottom_columns
assignment_length s es h =
    let (t, b) = fits_lengths s (top_columns s es) (bottom_columns s es) h in
    ap length (sym (take-append-drop (length s.top) es))
    ∙ length-append (take (length s.top) es) (drop (length s.top) es)
    ∙ ap₂ (λ (m n : ℕ). m + n) t b

-- a search of a sound sheet whose best assignment is known
module _ {bytes buffer work buffer' work' : List ℕ} {r : Result ℕ SearchRefusal} (searches : Searches bytes buffer work buffer' work' r) {s : Sheet}
    (long : LongEnough bytes s (length buffer) (length work))
  where
    -- its answer
    pub answers-best : searched_of bytes (length buffer) (length work) ≡ answer_as (best s)
    unfolding searched_of answer_in
    answers-best =
        let (e, same) = read_checked bytes s long.reads in
        rw (e, ← same, le-ltb _ _ long.pins, le-ltb _ _ long.cells)

    -- its columns
    module _ {d : ℕ} {cs : List ℕ} (e : best s ≡ found d cs) where
      pub is_best : IsBest s d cs
      is_best = subst (Answers s) e (best_answers s (read-sound bytes s long.reads))

      pub answers-found : searched_of bytes (length buffer) (length work) ≡ Ok d
      answers-found = answers-best ∙ ap answer_as e

      columns-written : buffer' ≡ cs ++ drop (length cs) buffer
      unfolding columns_after
      columns-written =
          let (checks, same) = read_checked bytes s long.reads in
          searches.columns ∙ rw (answers-found, ← same, e)

      columns-count : length cs ≡ pins_needed s
      columns-count = assignment_length s cs is_best.assignment

      pub columns-found : take (pins_needed s) buffer' ≡ cs
      columns-found = ap (take (pins_needed s)) columns-written ∙ take_at cs (drop (length cs) buffer) (pins_needed s) columns-count

      -- what it gives
      pub density-found : density_of r ≡ d
      density-found = ap density_of (searches.answer ∙ answers-found)

      pub gives : Gives s (number_of r) (density_of r) buffer'
      gives =
          record {
            returned = ap number_of (searches.answer ∙ answers-found);
            best = rw (density-found, columns-found) is_best;
          }

      pub columns-behind : drop (pins_needed s) buffer' ≡ drop (pins_needed s) buffer
      columns-behind =
          ap (drop (pins_needed s)) columns-written
          ∙ drop_at cs (drop (length cs) buffer) (pins_needed s) columns-count
          ∙ ap (λ (k : ℕ). drop k buffer) columns-count

-- and back: where the answer is a density, the sheet is sound, the buffers are long enough, and it is the best assignment's
module _ (b : List ℕ) (k m d : ℕ) where
  pub record Finds : Type 0 where
    pub long : LongEnough b (sheet_of b) k m
    pub columns : List ℕ
    pub best : best (sheet_of b) ≡ found d columns

  by_best :
      LongEnough b (sheet_of b) k m → (f : Found) → best (sheet_of b) ≡ f → answer_as f ≡ Ok d → Finds
  by_best long none e q = let z : ◌≡◌ {A = ℕ} 0 1 = cc in absurd (omega arith)
  by_best long (found j cs) e q =
      let z : j ≡ d = cc in record { long = long; columns = cs; best = e ∙ ap (λ (i : ℕ). found i cs) z }

  by_room :
      read b ≡ sound (sheet_of b) → (few less : Bool) → ltb k (pins_needed (sheet_of b)) ≡ few → ltb m (cells_needed (sheet_of b)) ≡ less
      → cond few (Err searched.Columns) (cond less (Err searched.Cells) (answer_as (best (sheet_of b)))) ≡ Ok d → Finds
  by_room reads true less e f q = let z : ◌≡◌ {A = ℕ} 0 1 = cc in absurd (omega arith)
  by_room reads false true e f q = let z : ◌≡◌ {A = ℕ} 0 1 = cc in absurd (omega arith)
  by_room reads false false e f q =
      by_best (record { reads = reads; pins = ltb-false _ _ e; cells = ltb-false _ _ f }) (best (sheet_of b)) refl q

  by_check : (r : Result Unit Refusal) → check_of b ≡ r → answer_if r (sheet_of b) k m ≡ Ok d → Finds
  unfolding answer_in
  by_check (Ok tt) e q = by_room (sound-read b e) _ _ refl refl q
  by_check (Err why) e q = let z : ◌≡◌ {A = ℕ} 0 1 = cc in absurd (omega arith)

  pub finds : searched_of b k m ≡ Ok d → Finds
  unfolding searched_of
  finds = by_check (check_of b) refl
