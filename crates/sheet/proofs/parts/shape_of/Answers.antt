-- `sheet::shape_of` meets its contract: the answer of the check picks the case.
-- Assumes nothing.
use Rattle.std.proofs.Common.{sym, ap, ◌∙◌}
use Rattle.sheet.specs.declared.Layout.{Layout}
use Rattle.sheet.proofs.Places.{opened_sound, opened_refused, layout_shape, zero_shape, refused-shape}
use Rattle.sheet.proofs.parts.shape_of.Goals as goal

pub returns-in-Ok : goal.returns-in-Ok
returns-in-Ok c =
    let (checks, laid) = opened_sound _ _ (sym c.in-Ok.ensures) in
    ap (λ (n : Layout). n.shape) laid ∙ layout_shape _ checks

pub returns-in-Err : goal.returns-in-Err
returns-in-Err c = zero_shape c.default.result c.default.ensures ∙ refused-shape _ _ (opened_refused _ _ (sym c.in-Err.ensures))
