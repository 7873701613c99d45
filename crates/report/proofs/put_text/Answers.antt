-- The text of each way out.
use Rattle.std.proofs.Common.{ℕ, ◌≤◌, length, arith, refl, ap, ◌∙◌}
use Rattle.std.proofs.Math.ListN.{length-replicate}
use Rattle.text.proofs.Writes.{same_written}
use Rattle.report.specs.Printed.{refusal}
use Rattle.report.proofs.Prints.{too_long, refused_text, found_pins, found_text}
use Rattle.report.proofs.put_text.Goals as goal

pub returns-then-input-gt1548-clause-wrote : goal.returns-then-input-gt1548-clause-wrote
returns-then-input-gt1548-clause-wrote c =
    same_written (too_long c.args.input.now (omega (arith, c.if-input-gt1548.true))) c.put_refusal.ensures.wrote

pub put_result-requires-clause-input_in_bounds : goal.put_result-requires-clause-input_in_bounds
put_result-requires-clause-input_in_bounds c =
    let short : length c.args.input.now ≤ 1548 = omega (arith, c.if-input-gt1548.false) in
    let pins = found_pins _ _ _ _ _ _ c.in-Ok.ensures (length-replicate {A = ℕ} 128 0) (length-replicate {A = ℕ} 30000 0) short _ refl in
    omega (arith, pins)

pub returns-in-Ok-clause-wrote : goal.returns-in-Ok-clause-wrote
returns-in-Ok-clause-wrote c =
    let short : length c.args.input.now ≤ 1548 = omega (arith, c.if-input-gt1548.false) in
    let text = found_text _ _ _ _ _ _ c.in-Ok.ensures (length-replicate {A = ℕ} 128 0) (length-replicate {A = ℕ} 30000 0) short _ refl in
    same_written text c.put_result.ensures.wrote

pub returns-in-Err-clause-wrote : goal.returns-in-Err-clause-wrote
returns-in-Err-clause-wrote c =
    let short : length c.args.input.now ≤ 1548 = omega (arith, c.if-input-gt1548.false) in
    let text = ap refusal c.number.ensures ∙ refused_text _ _ _ _ _ _ c.in-Err.ensures (length-replicate {A = ℕ} 128 0) (length-replicate {A = ℕ} 30000 0) short _ refl in
    same_written text c.put_refusal-in-Err.ensures.wrote
