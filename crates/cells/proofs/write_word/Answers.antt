-- `cells::write_word` meets its contract: the four stores are those of `put_word`.
-- Assumes nothing.
use Rattle.cells.specs.Cells.{put_word}
use Rattle.std.proofs.Common.{rules}
use Rattle.cells.proofs.write_word.Goals as goal

pub returns : goal.returns
unfolding put_word
returns c = search rules
