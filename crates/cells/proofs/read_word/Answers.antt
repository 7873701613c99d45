-- `cells::read_word` meets its contract: the four cells, joined.
-- Assumes nothing.
use Rattle.cells.specs.Cells.{word_at}
use Rattle.cells.proofs.read_word.Goals as goal

pub returns : goal.returns
unfolding word_at
returns c = c.joined.ensures
