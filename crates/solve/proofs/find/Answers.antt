-- `solve::find` meets its contract: the rules are those of the sections, clipped.
-- Assumes nothing.
use Rattle.std.proofs.Common.{◌∙◌, sym, ap₂, Bool, ◌&&◌, arith}
use Rattle.solve.proofs.Finding.{counts, closed_worked, opened}
use Rattle.solve.proofs.find.Goals as goal

pub returns-then-not-open : goal.returns-then-not-open
returns-then-not-open c =
    closed_worked c.args.sections _ _ c.requires _ _ _ _ _ c.read_rules.ensures c.read_rules-2.ensures c.clip.ensures.sets c.clip-2.ensures.sets
    (sym (ap₂ (λ (a b : Bool). a && b) c.clip.ensures.is_open c.clip-2.ensures.is_open) ∙ c.if-not-open.true) _ _

pub place_open-density-requires : goal.place_open-density-requires
place_open-density-requires c = (
  c.requires,
  opened c.args.sections _ _ c.requires _ _ _ _ _ c.read_rules.ensures c.read_rules-2.ensures c.clip.ensures.sets c.clip-2.ensures.sets
      (sym (ap₂ (λ (a b : Bool). a && b) c.clip.ensures.is_open c.clip-2.ensures.is_open) ∙ c.if-not-open.false),
  omega arith,
)

pub place_open-density-requires-else-p-le-FEW : goal.place_open-density-requires-else-p-le-FEW
place_open-density-requires-else-p-le-FEW c = (
  c.requires,
  opened c.args.sections _ _ c.requires _ _ _ _ _ c.read_rules.ensures c.read_rules-2.ensures c.clip.ensures.sets c.clip-2.ensures.sets
      (sym (ap₂ (λ (a b : Bool). a && b) c.clip.ensures.is_open c.clip-2.ensures.is_open) ∙ c.if-not-open.false),
  omega (arith, counts c.args.sections _ _ c.requires),
)
