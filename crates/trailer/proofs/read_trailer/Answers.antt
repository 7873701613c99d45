-- `trailer::read_trailer` meets its contract: each number is what its call gave.
-- Assumes nothing.
use Rattle.std.proofs.Common.{arith}
use Rattle.trailer.specs.Trailer.{trailer_of}
use Rattle.trailer.proofs.read_trailer.Goals as goal

pub returns : goal.returns
unfolding trailer_of
returns c = record { long = λ h. cc; short = λ h. absurd (omega arith) }
