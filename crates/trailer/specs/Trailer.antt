-- The trailer of a sheet's bytes (document 01, "The sheet").
-- Assumes nothing.
use Rattle.std.specs.Prelude.{ℕ, ◌+◌, ◌-◌, ◌≤◌, ◌<◌, ◌≡◌, List, Bool, ◌&&◌, length, get_or, cond, leb, eqb, Option, Some, None, unwrap_or}
use Rattle.little.specs.Little.{little}
use Rattle.mark.specs.declared.Mark.{Mark}
use Rattle.mark.specs.declared.Mark.TheVariants.{Cp, Cq}
use Rattle.mark.specs.Marks.{letters}
use Rattle.trailer.specs.declared.Trailer.{Trailer}

-- "Trailer: top section's offset (2), top terminals p (2), bottom section's offset (2), bottom terminals q (2), length L (2)"
abbrev pub trailer_size : ℕ
trailer_size = 12

abbrev pub trailer_at : List ℕ → ℕ → Trailer
trailer_at b i =
    record {
      top = record { at = little 2 b i; count = little 2 b (i + 2) };
      bottom = record { at = little 2 b (i + 4); count = little 2 b (i + 6) };
      columns = little 2 b (i + 8);
    }

unfoldable pub trailer_of : List ℕ → Trailer
trailer_of b = trailer_at b (length b - trailer_size)

-- what is read of it: these numbers, and all 0 where the file is shorter than a trailer
pub record TrailerRead (b : List ℕ) (t : Trailer) : Type 0 where
  pub long : trailer_size ≤ length b → t ≡ trailer_of b
  pub short : length b < trailer_size → t ≡ record { top = record { at = 0; count = 0 }; bottom = record { at = 0; count = 0 }; columns = 0 }

-- "the last two bytes must be the letters": there are two, and they are these
unfoldable pub has_mark : List ℕ → List ℕ → Bool
has_mark b letters =
    leb 2 (length b) && eqb (get_or b (length b - 2) 0) (get_or letters 0 0) && eqb (get_or b (length b - 1) 0) (get_or letters 1 0)

-- the mark of a sheet's bytes, or none: "2 now means neither mark"
unfoldable pub mark_of : List ℕ → Option Mark
mark_of b = cond (has_mark b (letters Cp)) (Some Cp) (cond (has_mark b (letters Cq)) (Some Cq) None)

-- the same, and CP of bytes that have none, which 2 refuses
abbrev pub mark_or_CP : List ℕ → Mark
mark_or_CP b = unwrap_or (mark_of b) Cp
