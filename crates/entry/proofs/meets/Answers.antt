-- `entry::meets` meets its contract.
-- Assumes nothing.
use Rattle.entry.proofs.Parts.{meets_none, meets_some}
use Rattle.entry.proofs.meets.Goals as goal

pub returns-then-both-eq0 : goal.returns-then-both-eq0
returns-then-both-eq0 c = λ by turned. meets_none c.args.w by c.args.back c.args.y c.both.result c.requires turned c.both.ensures c.if-both-eq0.true

pub returns : goal.returns
returns c = λ by turned.
    meets_some c.args.w by c.args.back c.args.y c.both.result c.requires turned c.both.ensures c.ranges.back.fits c.both.type_inv c.if-both-eq0.false
