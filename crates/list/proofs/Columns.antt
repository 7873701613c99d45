-- The check of a column list, from what the sheet layer and the two tests answer.
-- Assumes nothing.
use Rattle.std.proofs.Common.{◌≡◌, ℕ, ◌+◌, ◌-◌, ◌≤◌, true, false, ◌&&◌, List, length, take, drop, ℤ, Some, None, Ok, Err, Result, sym, ap, ◌∙◌, arith, length-drop, take_all, eq-eqb, ne_eqb}
use Rattle.channel.specs.Sheet.{Sheet}
use Rattle.channel.specs.Assignment.{top_columns, bottom_columns}
use Rattle.refusals.specs.declared.Refusal.{Refusal}
use Rattle.refusals.specs.declared.ListRefusal.TheVariants.{Sheet as Unsound, Count, Allowed, Distance}
use Rattle.soundness.specs.Read.{sheet_of}
use Rattle.soundness.proofs.Laws.{read-sound}
use Rattle.sheet.specs.declared.Layout.{Layout}
use Rattle.sheet.specs.declared.Shape.{Shape}
use Rattle.sheet.specs.declared.Sections.{Sections}
use Rattle.sheet.specs.Sections.{Held, sheet_held, Beside}
use Rattle.std.specs.Borrow.{Bor}
use Rattle.sheet.specs.Parts.{opened_of}
use Rattle.sheet.proofs.Laws.{Opens, opens, held_sheet, held_shape}
use Rattle.terminal.specs.Amount.{is_zero, out_of_range}
use Rattle.list.specs.Answer.{side_allowed, all_allowed, first_of, side_amount, first_amount}
use Rattle.list.specs.Answer.{unless, columns_listed, sheet_listed, listed_of}
use Rattle.refusals.specs.declared.ListRefusal.{ListRefusal}
use Rattle.list.proofs.Amounts.{some_amount, none_amount}

-- the columns of a list on each side, as parts of the list
abbrev top_part : List ℕ → ℕ → List ℕ
top_part cs p = take p cs

abbrev bottom_part : List ℕ → ℕ → List ℕ
bottom_part cs p = take (length cs - p) (drop p cs)

-- 14 of both
abbrev both_amount : Sheet → List ℕ → ℕ → ℤ
both_amount s cs p = first_of (side_amount s.top (top_part cs p)) (side_amount s.bottom (bottom_part cs p))

module _ (s : Sheet) (cs : List ℕ) (n : Layout) (p : ℕ) (size : p ≡ length s.top) where
  tops : top_columns s cs ≡ top_part cs p
  unfolding top_columns
  tops = rw size

  bottoms : bottom_columns s cs ≡ bottom_part cs p
  unfolding bottom_columns
  bottoms =
      let whole : length (drop p cs) ≤ length cs - p = rw length-drop (omega arith) in
      rw (take_all (length cs - p) (drop p cs) whole, size)

  -- the answer, side by side
  sides :
      unless (side_allowed s.top (top_part cs p) && side_allowed s.bottom (bottom_part cs p)) Allowed
      (unless (is_zero (both_amount s cs p)) (Distance (both_amount s cs p)) (Ok n))
      ≡ columns_listed s cs n
  unfolding columns_listed all_allowed first_amount
  sides = rw (tops, bottoms)

  -- 13 of the top, then of the bottom, then 14
  pub top-refused : side_allowed s.top (top_part cs p) ≡ false → Err Allowed ≡ columns_listed s cs n
  top-refused e = rw e at sides

  module _ (top : side_allowed s.top (top_part cs p) ≡ true) where
    pub bottom-refused : side_allowed s.bottom (bottom_part cs p) ≡ false → Err Allowed ≡ columns_listed s cs n
    bottom-refused e = rw (top, e) at sides

    module _ (bottom : side_allowed s.bottom (bottom_part cs p) ≡ true) where
      by-amount :
          unless (is_zero (both_amount s cs p)) (Distance (both_amount s cs p)) (Ok n) ≡ columns_listed s cs n
      by-amount = rw (top, bottom) at sides

      pub distance-refused :
          (found : ℤ) → out_of_range (both_amount s cs p) ≡ Some found
          → Err (Distance found) ≡ columns_listed s cs n
      distance-refused found e =
          let (apart, same) = some_amount (both_amount s cs p) found e in
          rw (apart, same) at by-amount

      pub listed : out_of_range (both_amount s cs p) ≡ None → Ok n ≡ columns_listed s cs n
      listed e = rw (none_amount (both_amount s cs p) e) at by-amount

-- what is said of a sheet that does not open
pub sheet-refused : (b cs : List ℕ) (why : Refusal) → opened_of b ≡ Err why → Err (Unsound why) ≡ listed_of b cs
unfolding listed_of
sheet-refused b cs why e = rw e

-- and of one that does, with its layout
module _ (s : Bor (List ℕ)) (cs : List ℕ) (n : Layout) (opening : opened_of s.now ≡ Ok n) where
  abbrev b : List ℕ
  b = s.now

  laws : Opens b n
  laws = opens b n opening

  sound_listed : listed_of b cs ≡ sheet_listed (sheet_of b) cs n
  unfolding listed_of
  sound_listed = rw opening

  pins_counted : n.shape.pins ≡ length (sheet_of b).top + length (sheet_of b).bottom
  pins_counted = ap (λ (f : Shape). f.pins) laws.shape

  -- 12
  pub count-refused : (length cs ≡ n.shape.pins → ⊥) → Err Count ≡ listed_of b cs
  unfolding sheet_listed
  count-refused h =
      sym
      (sound_listed
      ∙ rw (ne_eqb (length cs) (length (sheet_of b).top + length (sheet_of b).bottom) (λ e. h (e ∙ sym pins_counted))))

  -- a list that is p+q long, beside the two sections
  module _ (long : length cs ≡ n.shape.pins) (m : Sections) (held : Held s n m) where
    pub beside : Beside m cs
    beside =
        let sound = read-sound s.now (sheet_of s.now) laws.reads in
        let shape = held_shape s n laws m held in
        let p = ap (λ (f : Shape). f.top) shape in
        let pins = ap (λ (f : Shape). f.pins) shape in
        let given = ap (λ (f : Shape). f.pins) held.shape in
        let length = ap (λ (f : Shape). f.columns) (held.shape ∙ laws.shape) in
        record {
          tops = p;
          long = omega (arith, long, pins, p, given);
          few = omega (arith, long, ap (λ (f : Shape). f.pins) laws.shape, sound.counts);
          short = omega (arith, length, sound.columns);
        }

    pub columns-checked : (r : Result Layout ListRefusal) → r ≡ columns_listed (sheet_held m) cs n → r ≡ listed_of b cs
    unfolding sheet_listed
    columns-checked r e =
        e
        ∙ ap (λ (s : Sheet). columns_listed s cs n) (held_sheet s n laws m held)
        ∙ sym (sound_listed ∙ rw (eq-eqb (length cs) (length (sheet_of b).top + length (sheet_of b).bottom) (long ∙ pins_counted)))
