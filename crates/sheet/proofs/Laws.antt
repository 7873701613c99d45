-- What the layers above may use of the sheet layer: laws of its definitions that say nothing of where a byte stands.
-- Assumes nothing.
use Rattle.std.proofs.Common.{◌≡◌, ℕ, List, length, Ok, Err, sym, refl, ap, ◌∙◌}
use Rattle.channel.specs.Sheet.{Sheet}
use Rattle.channel.specs.declared.Side.{Side}
use Rattle.channel.specs.declared.Side.TheVariants.{Top, Bottom}
use Rattle.format.specs.Format.{of_side}
use Rattle.format.specs.Parts.{bytes_of, terminals_in}
use Rattle.refusals.specs.declared.Refusal.{Refusal}
use Rattle.refusals.specs.Refusals.{number_of}
use Rattle.soundness.specs.Check.{check_of}
use Rattle.soundness.specs.Read.{sheet_of, read}
use Rattle.soundness.specs.Read.Read.{sound, refused}
use Rattle.sheet.specs.declared.Layout.{Layout}
use Rattle.sheet.specs.declared.Shape.{Shape}
use Rattle.sheet.specs.declared.Sections.{Sections}
use Rattle.sheet.specs.Sections.{Held, sheet_held}
use Rattle.std.specs.Borrow.{Bor}
use Rattle.sheet.specs.Parts.{shape, shape_as, shape_of, layout_of, opened_of, section_of, sheet_in, entry_of, entry_in}
use Rattle.soundness.proofs.Laws.{sound-read, read_checked, read-refused}
use Rattle.sheet.proofs.Places.{opened_sound, layout_mark, layout_shape, sound-section}
-- what the check refuses does not open
pub use Rattle.sheet.proofs.Places.{opened_refused}
-- a section's terminals are those of its side
pub use Rattle.sheet.proofs.Places.{section-terminals}

-- the shape of a sheet that reads
pub shape-read : (b : List ℕ) (s : Sheet) → read b ≡ sound s → shape_of b ≡ shape s.columns (length s.top) (length s.bottom)
unfolding shape_of
shape-read b s h = ap shape_as h

-- a sheet that reads opens, and one that does not is refused with its number
pub read_opened : (b : List ℕ) (s : Sheet) → read b ≡ sound s → (opened_of b ≡ Ok (layout_of b)) × (s ≡ sheet_of b)
unfolding opened_of
read_opened b s h = let (checks, same) = read_checked b s h in (rw checks, same)

pub read_unopened : (b : List ℕ) (n : ℕ) → read b ≡ refused n → (why : Refusal) × (opened_of b ≡ Err why) × (number_of why ≡ n)
unfolding opened_of
read_unopened b n h = let (why, checks, number) = read-refused b n h in (why, rw checks, number)

-- what a sheet that opens says: it reads, its shape is that of the sheet, and its parts hold the terminals of the sides
pub record Opens (b : List ℕ) (n : Layout) : Type 0 where
  pub checks : check_of b ≡ Ok tt
  pub reads : read b ≡ sound (sheet_of b)
  pub mark : n.mark ≡ (sheet_of b).mark
  pub shape : n.shape ≡ shape (sheet_of b).columns (length (sheet_of b).top) (length (sheet_of b).bottom)
  pub top : terminals_in (bytes_of b n.top) ≡ (sheet_of b).top
  pub bottom : terminals_in (bytes_of b n.bottom) ≡ (sheet_of b).bottom

pub opens : (b : List ℕ) (n : Layout) → opened_of b ≡ Ok n → Opens b n
opens b n h =
    let (checks, laid) = opened_sound b n h in
    let reads = sound-read b checks in
    let section : (side : Side) → bytes_of b (of_side n.top n.bottom side) ≡ section_of b side
    = λ side. sound-section b checks side _ (ap (λ (m : Layout). of_side m.top m.bottom side) laid) in
    record {
      checks = checks;
      reads = reads;
      mark = ap (λ (m : Layout). m.mark) laid ∙ layout_mark b;
      shape = ap (λ (m : Layout). m.shape) laid ∙ layout_shape b checks ∙ shape-read b (sheet_of b) reads;
      top = ap terminals_in (section Top) ∙ section-terminals b (sheet_of b) reads Top;
      bottom = ap terminals_in (section Bottom) ∙ section-terminals b (sheet_of b) reads Bottom;
    }

-- its mark, its length and its two parts make the sheet, of its shape
module _ (b : List ℕ) (n : Layout) (laws : Opens b n) (top bottom : List ℕ) (is_top : top ≡ bytes_of b n.top)
    (is_bottom : bottom ≡ bytes_of b n.bottom) where
  pub same_sheet : sheet_in n.mark n.shape.columns top bottom ≡ sheet_of b
  same_sheet =
      let columns : n.shape.columns ≡ (sheet_of b).columns = ap (λ (f : Shape). f.columns) laws.shape in
      rw (laws.mark, columns, is_top, is_bottom, laws.top, laws.bottom)

  pub same_shape : n.shape ≡ shape n.shape.columns (length (terminals_in top)) (length (terminals_in bottom))
  same_shape = laws.shape ∙ sym (ap (λ (s : Sheet). shape s.columns (length s.top) (length s.bottom)) same_sheet)

-- and so do its sections
module _ (s : Bor (List ℕ)) (n : Layout) (laws : Opens s.now n) (m : Sections) (held : Held s n m) where
  pub held_sheet : sheet_held m ≡ sheet_of s.now
  held_sheet = rw (held.mark, held.shape) (same_sheet s.now n laws m.top.now m.bottom.now held.top.bytes held.bottom.bytes)

  pub held_shape : m.shape ≡ shape m.shape.columns (length (terminals_in m.top.now)) (length (terminals_in m.bottom.now))
  held_shape = rw held.shape (same_shape s.now n laws m.top.now m.bottom.now held.top.bytes held.bottom.bytes)

-- the entry at a place of a section is that of its terminals
pub entry_in_lem : (part : List ℕ) (place : ℕ) → entry_in part place ≡ entry_of (terminals_in part) place
unfolding entry_in
entry_in_lem part place = refl
