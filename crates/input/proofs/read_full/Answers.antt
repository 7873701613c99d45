-- A turn puts the bytes that it reads behind those that are there.
use Rattle.std.proofs.Common.{◌≡◌, ℕ, ◌+◌, ◌-◌, ◌≤◌, List, ◌++◌, rules, arith, length, take, sym, ap, ◌∙◌, subst, length-take-le}
use Rattle.std.proofs.Math.Seq.{take-append-add}
use Rattle.std.proofs.lemmas.List.{take-append-le}
use Rattle.std.specs.Io.KnownBytes.{Consumes}
use Rattle.std.proofs.KnownBytes.{Consumes-trans}
use borrow.Rule.Slice.PartMut.{put_mid, post_of}
use Rattle.input.proofs.read_full.Goals as goal

-- what stands at the start of a list where ys was put at a
take-put : (a k n : ℕ) (xs ys : List ℕ) → a ≤ length xs → n ≤ length ys → take (a + n) (put_mid a k xs ys) ≡ take a xs ++ take n ys
take-put a k n xs ys within fits =
    let after = post_of a k xs in
    ap (λ m. take (m + n) (put_mid a k xs ys)) (sym (length-take-le a xs within))
    ∙ take-append-add (take a xs) (ys ++ after) n
    ∙ ap (λ l. take a xs ++ l) (take-append-le n ys after fits)

pub loop-preserved : goal.loop-preserved
loop-preserved g c =
    let at = c.loop.done in
    let old = c.loop.buffer in
    let read = take-put at (length old - at) c.in_ok-n.n old c.read.new.buf c.loop.invariant.in_buffer c.in_ok-n.ensures.bound.0 in record {
      in_buffer = search rules;
      each_turn = omega (arith, c.if-n-eq0.false, c.loop.invariant.each_turn);
      bytes = subst (Consumes _ _) (sym read) (Consumes-trans _ _ _ _ _ c.loop.invariant.bytes c.in_ok-n.ensures.bytes.0);
    }
