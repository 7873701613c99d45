-- A sound sheet whose numbers fit their bytes is read back from its bytes.
-- Assumes nothing.
use Rattle.std.proofs.Common.{◌≡◌, ℕ, ◌+◌, ◌-◌, ◌*◌, Bool, true, false, List, [], ◌∷◌, length, get_or, take, drop, refl, ap, ◌∙◌, append_assoc, arith, Some, take_at, get_or-append-add, drop_at, le-ltb, eq-eqb, ne_eqb, Ok}
use Rattle.channel.specs.Sheet.{Terminal, Sheet, SoundFrom, Sound}
use Rattle.trailer.specs.declared.Trailer.{Trailer}
use Rattle.trailer.specs.Trailer.{trailer_size, trailer_at, trailer_of, mark_of}
use Rattle.trailer.proofs.Marks.{mark_read}
use Rattle.format.specs.Format.{record_size}
use Rattle.format.specs.Parts.{bytes_of, terminals_in}
use Rattle.form.specs.Form.{laid_out, trailer_check, form_of}
use Rattle.soundness.specs.Check.{terminal_check, side_check, check_of}
use Rattle.soundness.specs.Read.{sheet_of, read}
use Rattle.soundness.specs.Read.Read.{sound}
use Rattle.encode.specs.Encode.{section_bytes, sections_bytes, trailer_bytes, top_first, sheet_bytes, sheet_size, Encodable}
use Rattle.encode.proofs.Lengths.{length-section, length_sections, length-sheet}
use Rattle.encode.proofs.Bytes.{trailer_behind, trailer_read, section-read}

-- a sound side passes its check
side_checks : (l : ℕ) (is_first : Bool) (ts : List Terminal) → SoundFrom l is_first ts → side_check l is_first ts ≡ Ok tt
unfolding terminal_check
side_checks l is_first [] h = refl
side_checks l is_first (t ∷ ts) h = rw (h.0.net, h.0.distances, h.0.allowed) (side_checks l false ts h.1)

module _ (s : Sheet) (whole : Sound s) (fit : Encodable s) where
  abbrev b : List ℕ
  b = sheet_bytes s

  abbrev last : Trailer
  last = top_first s.columns (length s.top) (length s.bottom)

  size : length b ≡ sheet_size (length s.top) (length s.bottom)
  size = length-sheet s

  -- the trailer stands behind the sections
  trailer : trailer_of b ≡ last
  unfolding trailer_of sheet_bytes
  trailer =
      let (few, few') = whole.counts in
      let (_, short) = whole.columns in
      ap (trailer_at b) at
      ∙ trailer_behind (sections_bytes s) (trailer_bytes last s.mark) 0
      ∙ trailer_read last s.mark (omega arith) (omega arith) (omega arith) (omega arith) (omega arith)
    where
      at : length b - trailer_size ≡ length (sections_bytes s) + 0
      at = omega (arith, size, length_sections s)

  marked : mark_of b ≡ Some s.mark
  unfolding sheet_bytes
  marked = mark_read b s.mark (omega (arith, size)) (at 2 10 (omega arith)) (at 1 11 (omega arith))
    where
      at : (k j : ℕ) → k + j ≡ trailer_size → get_or b (length b - k) 0 ≡ get_or (trailer_bytes last s.mark) j 0
      at k j h =
          let same : length b - k ≡ length (sections_bytes s) + j = omega (arith, size, length_sections s) in
          ap (λ (i : ℕ). get_or b i 0) same ∙ get_or-append-add (sections_bytes s) (trailer_bytes last s.mark) j 0

  laid : trailer_check last (length b) ≡ Ok tt
  unfolding trailer_check laid_out
  laid =
      let (few, few') = whole.counts in
      let (some, short) = whole.columns in
      rw (
        ne_eqb s.columns 0 (λ z. omega arith),
        le-ltb 64 s.columns short,
        le-ltb 64 (length s.top) few,
        le-ltb 64 (length s.bottom) few',
        eq-eqb (length b) (sheet_size (length s.top) (length s.bottom)) size,
        eq-eqb (record_size * length s.top) (record_size * length s.top) refl,
      )

  form : form_of b ≡ Ok tt
  unfolding form_of
  form = rw (le-ltb (length b) trailer_size (omega (arith, size)), marked, trailer) laid

  -- each section is where the trailer says
  top : terminals_in (bytes_of b last.top) ≡ s.top
  unfolding bytes_of sheet_bytes
  top =
      ap (λ (x : List ℕ). terminals_in (take (record_size * length s.top) x))
      (append_assoc (section_bytes s.top) (section_bytes s.bottom) (trailer_bytes last s.mark))
      ∙ ap terminals_in (take_at (section_bytes s.top) _ _ (length-section s.top))
      ∙ section-read s.top fit.top

  bottom : terminals_in (bytes_of b last.bottom) ≡ s.bottom
  unfolding bytes_of sheet_bytes
  bottom =
      ap (λ (x : List ℕ). terminals_in (take (record_size * length s.bottom) (drop (record_size * length s.top) x)))
      (append_assoc (section_bytes s.top) (section_bytes s.bottom) (trailer_bytes last s.mark))
      ∙ ap (λ (x : List ℕ). terminals_in (take (record_size * length s.bottom) x))
      (drop_at (section_bytes s.top) _ _ (length-section s.top))
      ∙ ap terminals_in (take_at (section_bytes s.bottom) _ _ (length-section s.bottom))
      ∙ section-read s.bottom fit.bottom

  check : check_of b ≡ Ok tt
  unfolding check_of
  check =
      rw (
        form,
        trailer,
        top,
        bottom,
        side_checks s.columns true s.top whole.top,
        side_checks s.columns true s.bottom whole.bottom,
      )

  -- what is written is read back
  pub read_encoded : read (sheet_bytes s) ≡ sound s
  unfolding read sheet_of
  read_encoded = rw (check, marked, trailer, top, bottom)
