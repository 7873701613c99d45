use Rattle.std.proofs.Common.{ℕ, ◌≡◌, List, length, ap, ◌∙◌, arith, length-drop}
use Rattle.channel.specs.Sheet.{Terminal}
use Rattle.format.specs.Parts.{terminals_in}
use Rattle.rules.proofs.Reading.{next_terminal, rules_more, rules_all}
use Rattle.rules.proofs.read_rules.Goals as goal

pub loop-i-preserved : goal.loop-i-preserved
loop-i-preserved c =
    let ts : List Terminal = terminals_in c.args.part.now in
    let n : ℕ = c.loop-i.i-iterator.count in
    let (first, place, count, more) = c.in-Some.ensures.steps in
    let next = next_terminal ts n _ _ (c.loop-i.invariant.2 ∙ first) in
    let rule = c.rule_of-rule.result in
    let made = c.rule_of-rule.ensures ts (rw place next.number) in
    let words = rw place at c.put.ensures.words in (
      rw (words, count)
          (rules_more c.args.side ts n c.loop-i.invariant.0 rule.range rule.allowed (omega (arith, next.there)) (rw words at c.put.ensures.size)
          (rw place at made)),
      rw count (omega (arith, next.there)),
      rw count next.behind,
    )

pub returns : goal.returns
returns c =
    let ts : List Terminal = terminals_in c.args.part.now in
    let n : ℕ = c.loop-i.i-iterator.count in
    let all : n ≡ length ts =
    omega (arith, c.loop-i.invariant.1, ap length (c.loop-i.invariant.2 ∙ c.in-None.ensures.steps.0.0), length-drop n ts) in
    rules_all c.args.side ts n c.loop-i.invariant.0 all
