use Rattle.std.proofs.Common.{◌≡◌, ◌+◌, ◌-◌, arith}
use Rattle.steps.specs.Stepped.{stepped_back}
use Rattle.clip.proofs.Passes.{right_none, right_more, kept_bits}
use Rattle.clip.proofs.from_right.Goals as goal

pub loop-i-init : goal.loop-i-init
loop-i-init c = (omega arith, right_none _ c.args.n c.args.n _ (omega arith))

pub loop-i-preserved : goal.loop-i-preserved
loop-i-preserved c =
    let l = c.loop-i in
    let behind : l.i - 1 + 1 ≡ l.i = omega arith in
    let bits =
    kept_bits c.allowed-in-loop-i.result c.steps_back-reaching.result c.both.result (stepped_back c.allowed.result c.range.result)
    c.allowed-in-loop-i.type_inv c.both.ensures c.steps_back-reaching.ensures in (
      omega arith,
      rw c.put_allowed.ensures.words
          (right_more c.args.side c.args.rules.now.words l.rules.words (l.i - 1) c.both.result (omega arith) (omega arith)
          (rw c.put_allowed.ensures.words at c.put_allowed.ensures.size) l.i c.args.n (omega arith) (omega arith) (omega arith) l.invariant.1
          (rw (c.allowed-in-loop-i.ensures, c.allowed.ensures, c.range.ensures, behind) at bits)),
    )

pub returns : goal.returns
returns c =
    let all : c.loop-i.i ≡ 1 = omega arith in
    rw all at c.loop-i.invariant.1
