-- `sheet::section` meets its contract: the answer of the check picks the case.
-- Assumes nothing.
use Rattle.std.proofs.Common.{◌≡◌, ℕ, ◌+◌, sym, ap, ◌∙◌, arith}
use Rattle.format.specs.Format.{of_side}
use Rattle.sheet.specs.declared.Layout.{Layout}
use Rattle.sheet.specs.Parts.{layout_of}
use Rattle.sheet.proofs.Places.{opened_sound, opened_refused, refused-section, refused_at, sound-section, sound-at}
use Rattle.sheet.proofs.parts.section.Goals as goal

pub returns-in-Ok : goal.returns-in-Ok
returns-in-Ok c =
    let a = c.args in
    let (checks, laid) = opened_sound _ _ (sym c.in-Ok.ensures) in
    let same : c.of_side.result ≡ of_side (layout_of a.s.now).top (layout_of a.s.now).bottom a.side
    = c.of_side.ensures ∙ ap (λ (n : Layout). of_side n.top n.bottom a.side) laid in
    let own = c.part_in.ensures in
    record {
      place = own.place ∙ ap (λ (k : ℕ). (a.s.ref_ptr.0, a.s.ref_ptr.1 + k)) (sound-at _ checks a.side _ same);
      bytes = own.bytes ∙ sound-section _ checks a.side _ same;
    }

pub returns-in-Err : goal.returns-in-Err
returns-in-Err c =
    let a = c.args in
    let refuses = opened_refused _ _ (sym c.in-Err.ensures) in
    record {
      place = ap (λ (k : ℕ). (a.s.ref_ptr.0, k)) (omega (arith, refused_at _ _ refuses a.side));
      bytes = refused-section _ _ refuses a.side;
    }
