-- A mark has two letters.
-- Assumes nothing.
use Rattle.std.proofs.Common.{◌≡◌, length, refl}
use Rattle.mark.specs.declared.Mark.{Mark}
use Rattle.mark.specs.declared.Mark.TheVariants.{Cp, Cq}
use Rattle.mark.specs.Marks.{letters}

pub two_letters : (m : Mark) → length (letters m) ≡ 2
two_letters Cp = refl
two_letters Cq = refl
