-- The lines of a sheet: none of a refused one, and of a sound one those of its two sides, one behind the other.
-- Assumes nothing.
use Rattle.std.proofs.Common.{◌≡◌, ℕ, ◌≤◌, List, [], ◌++◌, ◌-◌, length, take, drop, Ok, Err, sym, refl, ap, ◌∙◌, arith, length-take-le, length-drop, take_all}
use Rattle.std.proofs.lemmas.List.{take-append-drop}
use Rattle.std.specs.Borrow.{Bor}
use Rattle.channel.specs.Sheet.{Sheet}
use Rattle.refusals.specs.declared.Refusal.{Refusal}
use Rattle.channel.specs.declared.Side.TheVariants.{Top, Bottom}
use Rattle.soundness.specs.Read.{Read, sheet_of, read}
use Rattle.soundness.specs.Read.Read.{sound, refused}
use Rattle.soundness.proofs.Laws.{read_checked}
use Rattle.sheet.specs.declared.Layout.{Layout}
use Rattle.sheet.specs.declared.Sections.{Sections}
use Rattle.sheet.specs.declared.Shape.{Shape}
use Rattle.format.specs.Parts.{terminals_in}
use Rattle.sheet.specs.Parts.{shape_of, opened_of}
use Rattle.sheet.specs.Sections.{Held, sheet_held}
use Rattle.cursor.specs.Visits.{visits, all_visits}
use Rattle.sheet.proofs.Laws.{opened_refused, shape-read, Opens, opens, held_sheet, held_shape}
use Rattle.cursor.proofs.Laws.{visits_of_lem, length-visits}
use Rattle.lines.specs.Text.{lines}
use Rattle.lines.proofs.Laws.{lines-append}
use Rattle.report.specs.Writing.{visits_as, visits_of}

-- a sheet that is refused has no lines
pub refused-lines : (b : List ℕ) (why : Refusal) (cs : List ℕ) → opened_of b ≡ Err why → [] ≡ lines (visits_of b) cs
unfolding visits_of
refused-lines b why cs e = by_read (read b) refl
  where
    by_read : (r : Read) → read b ≡ r → [] ≡ lines (visits_as r) cs
    by_read (sound s) q =
        let (checks, same) = read_checked b s q in
        let refuses = opened_refused b why e in
        let z : ◌≡◌ {A = ℕ} 0 1 = cc in
        absurd (omega arith)
    by_read (refused k) q = refl

-- a sheet that opened has its layout's shape
pub opened_shape : (b : List ℕ) (layout : Layout) → opened_of b ≡ Ok layout → layout.shape ≡ shape_of b
opened_shape b layout opening =
    let laws = opens b layout opening in
    laws.shape ∙ sym (shape-read b (sheet_of b) laws.reads)

-- its pins are at least those of its top side, and its sections make its lines
module _ (s : Bor (List ℕ)) (layout : Layout) (opening : opened_of s.now ≡ Ok layout) (m : Sections) (held : Held s layout m) where
  laws : Opens s.now layout
  laws = opens s.now layout opening

  pub tops : m.shape.top ≡ length (terminals_in m.top.now)
  tops = ap (λ (k : Shape). k.top) (held_shape s layout laws m held)

  pub tops-few : m.shape.top ≤ layout.shape.pins
  tops-few =
      omega (arith, ap (λ (k : Shape). k.top) held.shape, ap (λ (k : Shape). k.top) laws.shape, ap (λ (k : Shape). k.pins) laws.shape)

  pub held_visits : all_visits (sheet_held m) ≡ visits_of s.now
  unfolding visits_of
  held_visits = rw (held_sheet s layout laws m held, laws.reads)

-- the lines of two sides, one behind the other, each with its columns
pub side-lines :
    (s : Sheet) (p : ℕ) (columns : List ℕ) → p ≡ length s.top → p ≤ length columns
    → lines (visits Top 1 s.top) (take p columns) ++ lines (visits Bottom 1 s.bottom) (take (length columns - p) (drop p columns))
    ≡ lines (all_visits s) columns
side-lines s p columns size enough =
    let whole : length (drop p columns) ≤ length columns - p = rw length-drop (omega arith) in
    rw (visits_of_lem s, take_all (length columns - p) (drop p columns) whole)
    (sym
    (lines-append (visits Top 1 s.top) (visits Bottom 1 s.bottom) (take p columns) (drop p columns)
    (length-visits Top 1 s.top ∙ sym size ∙ sym (length-take-le p columns enough)))
    ∙ ap (lines (visits Top 1 s.top ++ visits Bottom 1 s.bottom)) (take-append-drop p columns))
