-- `modules::first_module` meets its contract: the module is cut off the list, or the list ends behind one with no pins.
-- Assumes nothing.
use Rattle.std.proofs.Common.{◌∙◌, sym, subst}
use Rattle.std.specs.Prelude.{Option, Some, None, MatchOption}
use Rattle.std.specs.Option.{UnwrapsOrElse}
use Rattle.modules.specs.Left.{IsFirst}
use Rattle.modules.proofs.Cut.{first_cut}
use Rattle.modules.proofs.first_module.Goals as goal

unwrapped :
    {X : Type 0} (P D : X → Type 0) (Q : Type 0) (o : Option X) (r : X) → MatchOption o Q P → UnwrapsOrElse o D r → (Q → D r → P r) → P r
unwrapped P D Q None r h u other = other h u
unwrapped P D Q (Some x) r h u other = subst P (sym u) h

pub returns : goal.returns
returns c =
    let b = c.args.list.now in
    unwrapped (λ p. IsFirst b p.0 p.1.now) _ _ c.whole_module.result _ c.whole_module.ensures c.unwrap_or_default.ensures
    (λ h d. let cut = first_cut b h in (rw (d.0.0, d.0.1.0, d.0.1.1) cut.0, d.1 ∙ cut.1))
