-- How long a sheet's numbers, records, sections and trailer are as bytes, and records behind others.
-- Assumes nothing.
use Rattle.std.proofs.Common.{◌≡◌, ℕ, zero, suc, ◌+◌, ◌*◌, ◌/◌, List, [], ◌∷◌, ◌++◌, length, sym, refl, ap, ◌∙◌, append_assoc, arith, length-append}
use Rattle.mark.proofs.Marks.{two_letters}
use Rattle.channel.specs.Sheet.{Terminal, Sheet}
use Rattle.format.specs.Format.{record_size}
use Rattle.encode.specs.Encode.{bytes, record_bytes, section_bytes, sections_bytes, trailer_bytes, top_first, sheet_bytes, sheet_size}

pub length-bytes : (k n : ℕ) → length (bytes k n) ≡ k
length-bytes zero n = refl
length-bytes (suc k) n = ap suc (length-bytes k (n / 256))

pub length-section : (ts : List Terminal) → length (section_bytes ts) ≡ record_size * length ts
length-section [] = refl
length-section (t ∷ ts) = omega (arith, length-section ts)

-- the records of terminals behind others
pub section-append : (ts us : List Terminal) → section_bytes (ts ++ us) ≡ section_bytes ts ++ section_bytes us
section-append [] us = refl
section-append (t ∷ ts) us =
    ap (λ (b : List ℕ). record_bytes t ++ b) (section-append ts us) ∙ sym (append_assoc (record_bytes t) (section_bytes ts) (section_bytes us))

pub length_sections : (s : Sheet) → length (sections_bytes s) ≡ record_size * (length s.top + length s.bottom)
length_sections s =
    let both = length-append (section_bytes s.top) (section_bytes s.bottom) in
    omega (arith, both, length-section s.top, length-section s.bottom)

-- the sections, ten bytes of numbers, the mark
pub length-sheet :
    (s : Sheet) → length (sheet_bytes s) ≡ sheet_size (length s.top) (length s.bottom)
unfolding sheet_bytes
length-sheet s =
    let last = trailer_bytes (top_first s.columns (length s.top) (length s.bottom)) s.mark in
    omega (arith, length-append (sections_bytes s) last, length_sections s, two_letters s.mark)
