-- What is copied over a part is what its bytes leave, stored one by one.
use Rattle.std.proofs.Common.{◌≡◌, ◌∙◌, ℕ, ◌+◌, ◌-◌, ◌≤◌, List, ◌++◌, length, take, drop, sym, refl, ap, arith}
use Rattle.std.proofs.Math.Seq.{sets, length-sets, take-length}
use Rattle.std.proofs.lemmas.List.Edits.{sets-eq}
use Rattle.std.proofs.lemmas.Slice.{put_mid-paste}
use borrow.Rule.Slice.PartMut.{put_mid}
use Rattle.text.proofs.Writer.put_text.Goals as goal

copied :
    (out text new : List ℕ) (at : ℕ) → new ≡ text → at + length text ≤ length out
    → put_mid at (at + length text - at) out new ≡ sets out at text
copied out text new at e room =
    put_mid-paste at (at + length text - at) out new text (length text) e (omega arith) refl
    ∙ ap (λ (t : List ℕ). take at out ++ t ++ drop (at + length text) out) (take-length text)
    ∙ sym (sets-eq text out at room)

pub returns : goal.returns
returns c =
    let w = c.args.self.now in
    let bytes = copied w.out.now c.args.text.now c.copy_from_slice.new.self w.end c.copy_from_slice.ensures.after c.requires in
    record {
      wrote = record { bytes = bytes; place = refl };
      buffer = refl;
      room = ap length bytes ∙ length-sets w.out.now w.end c.args.text.now;
    }
