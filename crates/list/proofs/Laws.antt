-- What the calls on an assignment may use of its check: the sheet opens with the layout that came with the answer, and the list is p+q long
-- and an assignment.
-- Assumes nothing.
use Rattle.std.proofs.Common.{◌≡◌, ℕ, ◌+◌, true, eqb, List, length, Ok, Err, Result, sym, refl, ap, ◌∙◌, arith}
use Rattle.channel.specs.Sheet.{Sheet}
use Rattle.channel.specs.Assignment.{is_assignment}
use Rattle.soundness.specs.Read.{sheet_of}
use Rattle.sheet.specs.declared.Layout.{Layout}
use Rattle.sheet.specs.declared.Shape.{Shape}
use Rattle.sheet.specs.declared.Sections.{Sections}
use Rattle.sheet.specs.Sections.{Held, sheet_held, Beside}
use Rattle.std.specs.Borrow.{Bor}
use Rattle.sheet.specs.Parts.{opened_of}
use Rattle.sheet.proofs.Laws.{Opens, opens, held_sheet}
use Rattle.terminal.specs.Amount.{is_zero}
use Rattle.list.specs.Answer.{all_allowed, first_amount, columns_listed, sheet_listed, listed_as, listed_of}
use Rattle.list.specs.Listed.{GivesListed}
use Rattle.list.specs.declared.listed.ListedSheet.{ListedSheet}
use Rattle.list.specs.Returned.{number_of}
use Rattle.refusals.specs.declared.ListRefusal.{ListRefusal}
use Rattle.refusals.specs.declared.Refusal.{Refusal}
use Rattle.list.proofs.Columns.{beside}
use Rattle.list.proofs.Returned.{one_list, assignment_long, tests-passed}

pub record Assigns (b cs : List ℕ) (n : Layout) : Type 0 where
  pub opens : Opens b n
  pub long : length cs ≡ n.shape.pins
  pub assigned : is_assignment (sheet_of b) cs ≡ true

-- the layout that came is the one that the sheet opened with
opened_listed : (b cs : List ℕ) (n : Layout) → listed_of b cs ≡ Ok n → opened_of b ≡ Ok n
unfolding listed_of sheet_listed columns_listed
opened_listed b cs n h = by-opened (opened_of b) refl h
  where
    s : Sheet
    s = sheet_of b

    by-opened : (o : Result Layout Refusal) → opened_of b ≡ o → listed_as s cs o ≡ Ok n → opened_of b ≡ Ok n
    by-opened (Ok l) e h =
        let came =
        (tests-passed (eqb (length cs) (length s.top + length s.bottom)) (all_allowed s cs) (is_zero (first_amount s cs))
        (first_amount s cs) l (ap number_of h)).1 in
        let same : l ≡ n = cc in
        e ∙ ap Ok same
    by-opened (Err why) e h = let f : ◌≡◌ {A = ℕ} 0 1 = cc in absurd (omega arith)

pub assigns : (b cs : List ℕ) (n : Layout) → listed_of b cs ≡ Ok n → Assigns b cs n
assigns b cs n h =
    let laws = opens b n (opened_listed b cs n h) in
    let holds = ((one_list b cs (listed_of b cs) refl).decides (sheet_of b) laws.reads).only (ap number_of h) in
    record {
      opens = laws;
      long = assignment_long (sheet_of b) cs holds ∙ sym (ap (λ (f : Shape). f.pins) laws.shape);
      assigned = holds;
    }

-- and its list stands beside the sections of its sheet
pub assigned_beside :
    (s columns : Bor (List ℕ)) (n : Layout) → listed_of s.now columns.now ≡ Ok n → (m : Sections) → Held s n m → Beside m columns.now
assigned_beside s columns n h m held =
    beside s columns.now n (opened_listed s.now columns.now n h) (assigns s.now columns.now n h).long m held

-- what is given of an answer of the check
module _ (s columns : Bor (List ℕ)) (answer : Result Layout ListRefusal) where
  pub refusal_given :
      (why : ListRefusal) → Err why ≡ answer → (r : Result ListedSheet ListRefusal) → r ≡ Err why → GivesListed s columns answer r
  refusal_given why e r given = rw (given, ← e) refl

  pub sheet_given : (n : Layout) → Ok n ≡ answer → (m : ListedSheet) → Held s n m.sections → m.columns ≡ columns → GivesListed s columns answer (Ok m)
  sheet_given n e m held own = rw (← e) (held, own)

-- an assignment that was given beside the sections of its sheet
pub record Given (s columns : Bor (List ℕ)) (m : ListedSheet) : Type 0 where
  pub layout : Layout
  pub answer : listed_of s.now columns.now ≡ Ok layout
  pub own : m.columns ≡ columns
  pub laws : Assigns s.now columns.now layout
  pub same : sheet_held m.sections ≡ sheet_of s.now

module _ (s columns : Bor (List ℕ)) where
  pub given : (m : ListedSheet) → GivesListed s columns (listed_of s.now columns.now) (Ok m) → Given s columns m
  given m = by-answer (listed_of s.now columns.now) refl
    where
      by-answer :
          (l : Result Layout ListRefusal) → listed_of s.now columns.now ≡ l → GivesListed s columns l (Ok m) → Given s columns m
      by-answer (Ok n) e (held, own) =
          let laws = assigns s.now columns.now n e in
          record { layout = n; answer = e; own = own; laws = laws; same = held_sheet s n laws.opens m.sections held }
      by-answer (Err why) e h = absurd h

  pub refused :
      (why : ListRefusal) → GivesListed s columns (listed_of s.now columns.now) (Err why) → listed_of s.now columns.now ≡ Err why
  refused why = by-answer (listed_of s.now columns.now)
    where
      by-answer : (l : Result Layout ListRefusal) → GivesListed s columns l (Err why) → l ≡ Err why
      by-answer (Ok n) h = absurd h
      by-answer (Err other) e = ap Err (sym e)
