use Rattle.std.proofs.Common.{◌≡◌, ◌+◌, arith}
use Rattle.steps.specs.Stepped.{stepped}
use Rattle.clip.proofs.Passes.{left_none, left_more, kept_bits}
use Rattle.clip.proofs.from_left.Goals as goal

pub loop-i-init : goal.loop-i-init
loop-i-init c = left_none _ 1 _ (omega arith)

pub loop-i-preserved : goal.loop-i-preserved
loop-i-preserved c =
    let l = c.loop-i in
    let bits =
    kept_bits c.allowed-in-loop-i.result c.steps-reached.result c.both.result (stepped c.allowed.result c.range.result)
    c.allowed-in-loop-i.type_inv c.both.ensures c.steps-reached.ensures in
    rw c.put_allowed.ensures.words
    (left_more c.args.side c.args.rules.now.words l.rules.words (l.i + 1) c.both.result (omega arith) (omega arith)
    (rw c.put_allowed.ensures.words at c.put_allowed.ensures.size) l.i (omega arith) (omega arith) l.invariant
    (rw (c.allowed-in-loop-i.ensures, c.allowed.ensures, c.range.ensures) at bits))

pub returns : goal.returns
returns c =
    let all : c.loop-i.i ≡ c.args.n = omega arith in
    rw all at c.loop-i.invariant
