-- Why the text is the one to print: a search that found an assignment found the best one, and the columns are its columns.
-- Assumes nothing.
use Rattle.std.proofs.Common.{◌≡◌, ℕ, ◌+◌, ◌<◌, ◌≤◌, List, ◌++◌, length, take, drop, Ok, Err, Result, sym, ap, ◌∙◌, zero-add, arith, le-ltb, lt-ltb}
use Rattle.std.proofs.Math.Seq.{sets-eq}
use Rattle.soundness.specs.Read.{sheet_of}
use Rattle.sheet.specs.Parts.{shape_of}
use Rattle.sheet.proofs.Laws.{shape-read}
use Rattle.searched.specs.declared.SearchRefusal.{SearchRefusal}
use Rattle.searched.specs.Numbers.{search_number}
use Rattle.search.specs.Answer.{Searches}
use Rattle.search.proofs.Found.{columns-found, Finds, finds}
use Rattle.text.specs.Writing.{Wrote}
use Rattle.lines.specs.Text.{lines}
use Rattle.report.specs.Printed.{refusal, headed, result, answered, search_text, printed, Prints}
use Rattle.report.specs.Writing.{visits_of}

-- a text at the buffer's start
pub at_start :
    (input : List ℕ) {old text new : List ℕ} {end : ℕ} → text ≡ printed input → end ≤ length old → Wrote old 0 text new end
    → Prints input old new end
at_start input {old} {text} {new} {end} e room w =
    let size : end ≡ length text = w.place ∙ zero-add (length text) in
    let fits : 0 + length text ≤ length old = omega arith in
    record {
      text =
          w.bytes
          ∙ sets-eq text old 0 fits
          ∙ ap (λ (k : ℕ). text ++ drop k old) (zero-add (length text))
          ∙ ap (λ (t : List ℕ). t ++ drop (length t) old) e;
      size = size ∙ ap length e;
    }

-- 15
pub too_long : (input : List ℕ) → 1548 < length input → refusal 15 ≡ printed input
unfolding printed
too_long input h = rw (lt-ltb _ _ h)

-- the text of the answer of a search with so many column bytes and work cells
module _ (input buffer work buffer' work' : List ℕ) (r : Result ℕ SearchRefusal) (searches : Searches input buffer work buffer' work' r)
    (columns : length buffer ≡ 128) (cells : length work ≡ 30000) (short : length input ≤ 1548)
  where
    answer-text : answered r (sheet_of input) ≡ printed input
    unfolding printed search_text
    answer-text =
        rw (le-ltb _ _ short, ← columns, ← cells) (ap (λ (k : Result ℕ SearchRefusal). answered k (sheet_of input)) searches.answer)

    pub refused_text : (why : SearchRefusal) → r ≡ Err why → refusal (search_number why) ≡ printed input
    refused_text why is = ap (λ (k : Result ℕ SearchRefusal). answered k (sheet_of input)) (sym is) ∙ answer-text

    module _ (d : ℕ) (is : r ≡ Ok d) where
      found-best : Finds input (length buffer) (length work) d
      found-best = finds input (length buffer) (length work) d (sym searches.answer ∙ is)

      pub found_pins : (shape_of input).pins ≤ 128
      found_pins = rw (shape-read input (sheet_of input) found-best.long.reads, ← columns) found-best.long.pins

      pub found_text : headed d (lines (visits_of input) (take (shape_of input).pins buffer')) ≡ printed input
      unfolding visits_of
      found_text =
          let f = found-best in
          rw (shape-read input (sheet_of input) f.long.reads, f.long.reads, columns-found searches f.long f.best)
          (ap (result (sheet_of input)) (sym f.best) ∙ ap (λ (k : Result ℕ SearchRefusal). answered k (sheet_of input)) (sym is) ∙ answer-text)
