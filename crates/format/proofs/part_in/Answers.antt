-- `format::part_in` meets its contract: the part is cut off where the bytes end.
-- Assumes nothing.
use Rattle.std.proofs.Common.{◌≡◌, ℕ, ap, arith}
use Rattle.format.specs.Parts.{offset_of}
use Rattle.format.proofs.Records.{part_cut}
use Rattle.format.proofs.part_in.Goals as goal

pub returns : goal.returns
returns c =
    let a = c.args in
    let at : c.min-at.result ≡ offset_of a.s.now a.part = c.min-at.ensures in
    record {
      place = ap (λ (k : ℕ). (a.s.ref_ptr.0, k)) (omega arith);
      bytes = part_cut a.s.now a.part _ _ at (omega arith);
    }
