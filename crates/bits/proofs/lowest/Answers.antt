-- `bits::lowest` meets its contract: as many zeros stand below the lowest bit.
-- Assumes nothing.
use Rattle.std.proofs.lemmas.Nat.{trailing_le}
use Rattle.bits.proofs.Laws.{lowest_bit}
use Rattle.bits.proofs.lowest.Goals as goal

pub returns : goal.returns
returns c = let (has, none) = lowest_bit c.args.w c.ranges.w.fits in (trailing_le 64 c.args.w, has, none)
