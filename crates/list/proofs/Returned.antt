-- What the check of a column list answered: on a sound sheet 0 exactly when the list is an assignment.
-- Assumes nothing.
use Rattle.std.proofs.Common.{◌≡◌, ℕ, ◌+◌, Bool, true, false, ◌&&◌, eqb, List, [], ◌∷◌, length, take, drop, ℤ, pos, Ok, Err, Result, sym, refl, ap, ◌∙◌, arith, length-append, length-drop, take-append-drop, length-take-le, eq-eqb, ne_eqb, eqb-true}
use Rattle.std.proofs.Math.Bool.{and_assoc, and-eq-true_iff}
use Rattle.std.proofs.lemmas.Bool.{eqb-false}
use Rattle.channel.specs.Sheet.{Terminal, Sheet}
use Rattle.channel.specs.Assignment.{allows, in_range, later_fit, side_fits, fits, top_columns, bottom_columns, is_assignment}
use Rattle.channel.specs.Distance.{amount}
use Rattle.channel.proofs.Assignments.{fits_lengths}
use Rattle.soundness.specs.Read.{read}
use Rattle.soundness.specs.Read.Read.{sound, refused}
use Rattle.refusals.specs.declared.ListRefusal.TheVariants.{Sheet as Unsound, Count, Allowed, Distance}
use Rattle.sheet.specs.declared.Layout.{Layout}
use Rattle.sheet.specs.Parts.{layout_of}
use Rattle.sheet.proofs.Laws.{read_opened, read_unopened}
use Rattle.list.specs.Answer.{side_allowed, all_allowed, first_of, later_amount, side_amount, first_amount}
use Rattle.terminal.specs.Amount.{is_zero}
use Rattle.list.specs.Answer.{unless, columns_listed, sheet_listed, listed_of}
use Rattle.list.specs.Returned.{number_of, amount_of, Long, Answers, Returned}
use Rattle.refusals.specs.declared.ListRefusal.{ListRefusal}
use Rattle.terminal.proofs.Laws.{zero_true, zero_false, zero_amount}
use Rattle.list.proofs.Amounts.{zero_first}

-- two pairs of tests, regrouped
regroup : (w x y z : Bool) → (w && x && (y && z)) ≡ (w && y && (x && z))
regroup true true y z = refl
regroup true false true z = refl
regroup true false false z = refl
regroup false x y z = refl

-- 13 and 14 of terminals after the first, of as many columns, are together what an assignment asks of them
later-fits :
    (ts : List Terminal) (before : ℕ) (cs : List ℕ) → length cs ≡ length ts
    → (side_allowed ts cs && is_zero (later_amount ts before cs)) ≡ later_fit ts before cs
later-fits [] before [] h = refl
later-fits [] before (c ∷ cs) h = absurd (omega arith)
later-fits (t ∷ ts) before [] h = absurd (omega arith)
later-fits (t ∷ ts) before (c ∷ cs) h =
    let within : Bool = in_range t.least t.greatest before c in
    let rest : Bool = is_zero (later_amount ts c cs) in
    let kept : is_zero (amount t.least t.greatest before c) ≡ within = zero_amount t.least t.greatest before c in
    rw (zero_first, kept)
    (regroup (allows t.allowed c) (side_allowed ts cs) within rest
    ∙ and_assoc (allows t.allowed c) within (side_allowed ts cs && rest)
    ∙ ap (λ (b : Bool). allows t.allowed c && (within && b)) (later-fits ts c cs (omega arith)))

-- and so of a side
side_fits_lem : (ts : List Terminal) (cs : List ℕ) → length cs ≡ length ts → (side_allowed ts cs && is_zero (side_amount ts cs)) ≡ side_fits ts cs
side_fits_lem [] [] h = refl
side_fits_lem [] (c ∷ cs) h = absurd (omega arith)
side_fits_lem (t ∷ ts) [] h = absurd (omega arith)
side_fits_lem (t ∷ ts) (c ∷ cs) h =
    and_assoc (allows t.allowed c) (side_allowed ts cs) (is_zero (later_amount ts c cs))
    ∙ ap (λ (b : Bool). allows t.allowed c && b) (later-fits ts c cs (omega arith))

-- a list is an assignment exactly when it is p+q long and neither 13 nor 14 applies to it
assignment_tests :
    (s : Sheet) (cs : List ℕ)
    → is_assignment s cs ≡ (eqb (length cs) (length s.top + length s.bottom) && (all_allowed s cs && is_zero (first_amount s cs)))
unfolding is_assignment fits top_columns bottom_columns all_allowed first_amount
assignment_tests s cs = by_length (eqb (length cs) (length s.top + length s.bottom)) refl
  where
    tops : List ℕ
    tops = take (length s.top) cs

    bottoms : List ℕ
    bottoms = drop (length s.top) cs

    short :
        (b : Bool) → (side_fits s.top tops && side_fits s.bottom bottoms) ≡ b
        → (length cs ≡ length s.top + length s.bottom → ⊥) → b ≡ false
    short false e h = refl
    short true e h =
        let (t, u) = fits_lengths s tops bottoms e in
        absurd (h (omega (arith, t, u, length-append tops bottoms, ap length (take-append-drop (length s.top) cs))))

    by_length :
        (n : Bool) → eqb (length cs) (length s.top + length s.bottom) ≡ n
        → (side_fits s.top tops && side_fits s.bottom bottoms)
        ≡ (n && ((side_allowed s.top tops && side_allowed s.bottom bottoms)
        && is_zero (first_of (side_amount s.top tops) (side_amount s.bottom bottoms))))
    by_length true e =
        let size : length cs ≡ length s.top + length s.bottom = eqb-true _ _ e in
        let t : length tops ≡ length s.top = length-take-le (length s.top) cs (omega arith) in
        let u : length bottoms ≡ length s.bottom = length-drop (length s.top) cs ∙ omega arith in
        rw (sym (side_fits_lem s.top tops t), sym (side_fits_lem s.bottom bottoms u), zero_first)
        (regroup (side_allowed s.top tops) (is_zero (side_amount s.top tops)) (side_allowed s.bottom bottoms)
        (is_zero (side_amount s.bottom bottoms)))
    by_length false e = short (side_fits s.top tops && side_fits s.bottom bottoms) refl (eqb-false _ _ e)

pub assignment_long : (s : Sheet) (cs : List ℕ) → is_assignment s cs ≡ true → Long s cs
assignment_long s cs holds =
    eqb-true _ _
    ((and-eq-true_iff (eqb (length cs) (length s.top + length s.bottom)) _).0 (sym (assignment_tests s cs) ∙ holds)).0

-- with the number 0 all tests hold, and the layout is the one handed in
pub tests-passed :
    (n a k : Bool) (z : ℤ) (l : Layout)
    → let r = unless n Count (unless a Allowed (unless k (Distance z) (Ok l))) in
    number_of r ≡ 0 → ((n && (a && k)) ≡ true) × (r ≡ Ok l)
tests-passed true true true z l e = (refl, refl)
tests-passed true true false z l e = absurd (omega arith)
tests-passed true false k z l e = absurd (omega arith)
tests-passed false a k z l e = absurd (omega arith)

module _ (bytes columns : List ℕ) (r : Result Layout ListRefusal) (answer : r ≡ listed_of bytes columns) where
  -- the answer is known to be l
  answers : (l : Result Layout ListRefusal) → listed_of bytes columns ≡ l → Answers (number_of l) (amount_of l) (number_of r) (amount_of r)
  answers l e = (ap number_of (answer ∙ e), ap amount_of (answer ∙ e))

  unsound : (n : ℕ) → read bytes ≡ refused n → Answers n (pos 0) (number_of r) (amount_of r)
  unfolding listed_of
  unsound n h =
      let (why, unopened, number) = read_unopened bytes n h in
      let (same, none) = answers (Err (Unsound why)) (rw unopened) in
      (same ∙ number, none)

  module _ (s : Sheet) (h : read bytes ≡ sound s) where
    of-sheet : listed_of bytes columns ≡ sheet_listed s columns (layout_of bytes)
    unfolding listed_of
    of-sheet = let (opened, same) = read_opened bytes s h in rw (opened, ← same)

    other : (Long s columns → ⊥) → Answers 12 (pos 0) (number_of r) (amount_of r)
    unfolding sheet_listed
    other fails = answers (Err Count) (of-sheet ∙ rw (ne_eqb _ _ fails))

    beyond : Long s columns → all_allowed s columns ≡ false → Answers 13 (pos 0) (number_of r) (amount_of r)
    unfolding sheet_listed columns_listed
    beyond long fails = answers (Err Allowed) (of-sheet ∙ rw (eq-eqb _ _ long, fails))

    apart :
        Long s columns → all_allowed s columns ≡ true → (first_amount s columns ≡ pos 0 → ⊥)
        → Answers 14 (first_amount s columns) (number_of r) (amount_of r)
    unfolding sheet_listed columns_listed
    apart long all fails =
        answers (Err (Distance (first_amount s columns)))
        (of-sheet ∙ rw (eq-eqb _ _ long, all, zero_false (first_amount s columns) fails))

    passes : is_assignment s columns ≡ true → Answers 0 (pos 0) (number_of r) (amount_of r)
    unfolding sheet_listed columns_listed
    passes holds =
        let tests = sym (assignment_tests s columns) ∙ holds in
        let (long, both) = (and-eq-true_iff (eqb (length columns) (length s.top + length s.bottom)) _).0 tests in
        let (all, within) = (and-eq-true_iff (all_allowed s columns) (is_zero (first_amount s columns))).0 both in
        answers (Ok (layout_of bytes)) (of-sheet ∙ rw (long, all, zero_true (first_amount s columns) within))

    only : number_of r ≡ 0 → is_assignment s columns ≡ true
    unfolding sheet_listed columns_listed
    only passed =
        assignment_tests s columns
        ∙ (tests-passed (eqb (length columns) (length s.top + length s.bottom)) (all_allowed s columns) (is_zero (first_amount s columns))
        (first_amount s columns) (layout_of bytes) (sym (ap number_of (answer ∙ of-sheet)) ∙ passed)).0

  -- demands 1 and 2 of one check
  pub one_list : Returned bytes columns (number_of r) (amount_of r)
  one_list =
      record {
        unsound = unsound;
        decides =
            λ s h.
            record { other = other s h; beyond = beyond s h; apart = apart s h; passes = passes s h; only = only s h };
      }
