-- Laws of the parts of a sheet: its shape and its sections, and that a record of a section is that record of the sheet.
-- Assumes nothing.
use Rattle.std.proofs.Common.{◌≡◌, ℕ, zero, suc, ◌+◌, ◌*◌, ◌<◌, ◌≤◌, List, [], ◌∷◌, length, get_or, Some, None, Ok, Err, Result, sym, refl, ap, ◌∙◌, arith}
use Rattle.std.proofs.Math.Nat.{min-eq_left}
use Rattle.channel.specs.Sheet.{Terminal, no_terminal, Sheet, terminals}
use Rattle.refusals.specs.declared.Refusal.{Refusal}
use Rattle.terminal.specs.Terminal.{record_of}
use Rattle.trailer.specs.declared.Part.{Part}
use Rattle.trailer.specs.declared.Trailer.{Trailer}
use Rattle.channel.specs.declared.Side.{Side}
use Rattle.channel.specs.declared.Side.TheVariants.{Top, Bottom}
use Rattle.trailer.specs.Trailer.{trailer_of}
use Rattle.format.specs.Format.{record_size, terminals_from, of_side, part_of}
use Rattle.format.specs.Parts.{bytes_of, offset_of, terminals_in}
use Rattle.format.proofs.Records.{part_terminals}
use Rattle.soundness.specs.Check.{terminals_of, check_of}
use Rattle.soundness.specs.Read.{Read, sheet_of, read}
use Rattle.soundness.specs.Read.Read.{sound, refused}
use Rattle.sheet.specs.declared.Layout.{Layout}
use Rattle.sheet.specs.declared.Shape.{Shape}
use Rattle.sheet.specs.Parts.{no_shape, shape_of, layout_of, opened_as, opened_of, section_of}
use Rattle.sheet.specs.Parts.{section_at, nth, entry_of, entry_in, side_of, entry_as, entry_at}
use Rattle.form.proofs.Forms.{Formed}
use Rattle.soundness.proofs.Checks.{whole}
use Rattle.soundness.proofs.Laws.{sound-read, refused-read}

-- the record at a place that there is, and nothing behind the last
nth-found : (ts : List Terminal) (k : ℕ) → k < length ts → Some (record_of (get_or ts k no_terminal)) ≡ nth ts k
nth-found [] k h = elim h [ ]
nth-found (t ∷ ts) zero h = refl
nth-found (t ∷ ts) (suc k) h = nth-found ts k (omega arith)

nth_past : (ts : List Terminal) (k : ℕ) → length ts ≤ k → nth ts k ≡ None
nth_past (t ∷ ts) zero h = elim h [ ]
nth_past [] k h = refl
nth_past (t ∷ ts) (suc k) h = nth_past ts k (omega arith)

-- what a place of any bytes gives: places count from 1
pub entry_none : (part : List ℕ) (place : ℕ) → place ≡ 0 → None ≡ entry_in part place
unfolding entry_in
entry_none part place h = rw h

module _ (part : List ℕ) (place i : ℕ) (is : place ≡ suc i) where
  pub entry_found : i < length (terminals_in part) → Some (record_of (get_or (terminals_in part) i no_terminal)) ≡ entry_in part place
  unfolding entry_in
  entry_found h = rw is (nth-found (terminals_in part) i h)

  pub entry-nothing : length (terminals_in part) ≤ i → None ≡ entry_in part place
  unfolding entry_in
  entry-nothing h = rw is (sym (nth_past (terminals_in part) i h))

-- a shape with 0 in each field is that of a refused sheet
pub zero_shape : (r : Shape) → (r.columns ≡ 0) × ((r.top ≡ 0) × ((r.bottom ≡ 0) × ((r.cells ≡ 0) × (r.pins ≡ 0)))) → r ≡ no_shape
zero_shape r (columns, (top, (bottom, (cells, pins)))) =
    let whole : r ≡ record { columns = r.columns; top = r.top; bottom = r.bottom; cells = r.cells; pins = r.pins } = refl in
    whole ∙ rw (columns, top, bottom, cells, pins)

-- what is said of a refused sheet
module _ (b : List ℕ) (why : Refusal) (refuses : check_of b ≡ Err why) where
  pub refused-section : (side : Side) → [] ≡ section_of b side
  unfolding section_of
  refused-section side = rw refuses

  pub refused_at : (side : Side) → 0 ≡ section_at b side
  unfolding section_at
  refused_at side = rw refuses

  pub refused-shape : no_shape ≡ shape_of b
  unfolding shape_of
  refused-shape = rw (refused-read b why refuses)

-- and of a sound one, whose trailer is t
module _ (b : List ℕ) (sounds : check_of b ≡ Ok tt) where
  pub sound_form : Formed b
  sound_form = (whole b sounds).form

  module _ (t : Trailer) (trailer : t ≡ trailer_of b) where
    pub sound-limits : (t.columns ≤ 64) × (t.top.count ≤ 64) × (t.bottom.count ≤ 64)
    sound-limits = rw trailer (sound_form.columns.1, sound_form.count Top, sound_form.count Bottom)

  -- the layout's shape is that of the sheet
  pub layout_shape : (layout_of b).shape ≡ shape_of b
  unfolding layout_of shape_of sheet_of
  layout_shape =
      rw (
        sound-read b sounds,
        part_terminals b (trailer_of b).top (sound_form.room Top),
        part_terminals b (trailer_of b).bottom (sound_form.room Bottom),
      )

  -- and its parts are the sections, which lie in the sheet
  module _ (side : Side) (part : Part) (e : part ≡ of_side (layout_of b).top (layout_of b).bottom side) where
    pub sound-room : part.at + record_size * part.count ≤ length b
    unfolding layout_of
    sound-room = rw e (sound_form.room side)

    pub sound-section : bytes_of b part ≡ section_of b side
    unfolding section_of layout_of
    sound-section = rw (sounds, e)

    pub sound-at : offset_of b part ≡ section_at b side
    unfolding section_at layout_of
    sound-at = rw sounds (min-eq_left (omega (arith, sound-room)) ∙ ap (λ (k : Part). k.at) e)

-- the layout's mark is that of the sheet
pub layout_mark : (b : List ℕ) → (layout_of b).mark ≡ (sheet_of b).mark
unfolding layout_of sheet_of
layout_mark b = refl

-- what opening a sheet says of its check
pub opened_sound : (b : List ℕ) (n : Layout) → opened_of b ≡ Ok n → (check_of b ≡ Ok tt) × (n ≡ layout_of b)
unfolding opened_of
opened_sound b n h = by_check (check_of b) refl h
  where
    by_check : (r : Result Unit Refusal) → check_of b ≡ r → opened_as b r ≡ Ok n → (check_of b ≡ Ok tt) × (n ≡ layout_of b)
    by_check (Ok tt) e h = (e, cc)
    by_check (Err why) e h = let z : ◌≡◌ {A = ℕ} 0 1 = cc in absurd (omega arith)

pub opened_refused : (b : List ℕ) (why : Refusal) → opened_of b ≡ Err why → check_of b ≡ Err why
unfolding opened_of
opened_refused b why h = by_check (check_of b) refl h
  where
    by_check : (r : Result Unit Refusal) → check_of b ≡ r → opened_as b r ≡ Err why → check_of b ≡ Err why
    by_check (Ok tt) e h = let z : ◌≡◌ {A = ℕ} 0 1 = cc in absurd (omega arith)
    by_check (Err k) e h = let z : k ≡ why = cc in e ∙ ap Err z

-- a side's terminals are those of its part
pub side_terminals_lem : (b : List ℕ) (side : Side) → terminals_of b (part_of (trailer_of b) side) ≡ terminals (sheet_of b) (side_of side)
unfolding sheet_of
side_terminals_lem b Top = refl
side_terminals_lem b Bottom = refl

-- the records of a side's section are the side's terminals, and a refused sheet's section has none
side_as : Side → Read → List Terminal
side_as side (sound s) = terminals s (side_of side)
side_as side (refused n) = []

section-records : (b : List ℕ) (side : Side) → terminals_in (section_of b side) ≡ side_as side (read b)
unfolding layout_of terminals_from terminals_in side_as
section-records b side = by_check (check_of b) refl
  where
    by_check : (r : Result Unit Refusal) → check_of b ≡ r → terminals_in (section_of b side) ≡ side_as side (read b)
    by_check (Err why) e = rw (← refused-section b why e side, refused-read b why e)
    by_check (Ok tt) e =
        let part = of_side (layout_of b).top (layout_of b).bottom side in
        rw (← sound-section b e side part refl, sound-read b e) (side_terminals_lem b side)

pub section-terminals : (b : List ℕ) (s : Sheet) → read b ≡ sound s → (side : Side)
    → terminals_in (section_of b side) ≡ terminals s (side_of side)
unfolding side_as
section-terminals b s h side = section-records b side ∙ ap (side_as side) h

-- a place of a side's section is that place of the side
pub entry-section : (b : List ℕ) (side : Side) (place : ℕ) → entry_in (section_of b side) place ≡ entry_at b side place
unfolding entry_in entry_at side_as
entry-section b side place = ap (λ (ts : List Terminal). entry_of ts place) (section-records b side) ∙ of-read (read b) place
  where
    of-read : (r : Read) (k : ℕ) → entry_of (side_as side r) k ≡ entry_as side k r
    of-read (sound s) k = refl
    of-read (refused n) zero = refl
    of-read (refused n) (suc k) = refl
