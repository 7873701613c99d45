-- Bytes that end in the letters of a mark have that mark, and the mark that is read of bytes that have one is theirs.
-- Assumes nothing.
use Rattle.std.proofs.Common.{◌≡◌, ℕ, ◌-◌, ◌≤◌, false, List, length, get_or, Option, Some, None, is_none, unwrap_or, refl, true≢false, le-leb}
use Rattle.mark.specs.declared.Mark.{Mark}
use Rattle.mark.specs.declared.Mark.TheVariants.{Cp, Cq}
use Rattle.mark.specs.Marks.{letters}
use Rattle.trailer.specs.Trailer.{has_mark, mark_of, mark_or_CP}

pub mark_read : (b : List ℕ) (m : Mark) → 2 ≤ length b
    → get_or b (length b - 2) 0 ≡ get_or (letters m) 0 0
    → get_or b (length b - 1) 0 ≡ get_or (letters m) 1 0
    → mark_of b ≡ Some m
unfolding has_mark mark_of
mark_read b Cp h first last = rw (le-leb 2 (length b) h, first, last)
mark_read b Cq h first last = rw (le-leb 2 (length b) h, first, last)

-- and bytes that have a mark have the one that is read of them
pub mark_some : (b : List ℕ) → is_none (mark_of b) ≡ false → mark_of b ≡ Some (mark_or_CP b)
mark_some b h = go (mark_of b) h
  where
    go : (o : Option Mark) → is_none o ≡ false → o ≡ Some (unwrap_or o Cp)
    go None e = absurd (true≢false e)
    go (Some m) e = refl
