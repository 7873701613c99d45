-- `terminal::amount` meets its contract: no signed difference overflows, and each of the three answers is the definition's.
-- Assumes nothing.
use Rattle.terminal.proofs.Distances.{short-held, long-held, range-held}
use Rattle.terminal.proofs.columns.amount.Goals as goal

pub returns-then-distance-least : goal.returns-then-distance-least
returns-then-distance-least c =
    let f = c.ranges in
    short-held f.before.fits f.column.fits f.least.fits f.greatest.fits c.if-distance-least.true

pub returns-then-distance-greatest : goal.returns-then-distance-greatest
returns-then-distance-greatest c =
    let f = c.ranges in
    long-held f.before.fits f.column.fits f.least.fits f.greatest.fits c.if-distance-least.false c.if-distance-greatest.true

pub returns : goal.returns
returns c =
    let f = c.ranges in
    range-held f.before.fits f.column.fits f.least.fits f.greatest.fits c.if-distance-least.false c.if-distance-greatest.false
