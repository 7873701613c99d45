use Rattle.std.proofs.Common.{◌≡◌, ◌+◌, ℕ, zero, suc, ◌-◌, ◌/◌, ◌%◌, ◌<◌, List, [], ◌∷◌, ◌∙◌, arith}
use Rattle.std.proofs.Math.Numerals.{unary_clauses}
use Rattle.text.specs.Writing.{Wrote}
use Rattle.encode.specs.Encode.{bytes}
use Rattle.encode.proofs.Left.{Left, less-left}
use Rattle.encode.proofs.Lengths.{length-bytes}
use Rattle.encode.proofs.put_number.Goals as goal

-- a turn
next-left :
    {old all mid new : List ℕ} {at end end' : ℕ} (k n : ℕ) → 0 < k → Left old at all mid end (bytes k n)
    → Wrote mid end (n % 256 ∷ []) new end' → Left old at all new end' (bytes (k - 1) (n / 256))
next-left zero n some left w = absurd (omega arith)
next-left (suc k) n some left w = simp unary_clauses (less-left left w)

pub put_byte-requires : goal.put_byte-requires
put_byte-requires c =
    let a = c.args in
    let l = c.loop-i in
    omega (arith, l.invariant.0.place, l.invariant.0.size, length-bytes (a.n - l.i) l.rest, length-bytes a.n a.value)

pub loop-i-preserved : goal.loop-i-preserved
loop-i-preserved c =
    let l = c.loop-i in
    let n = c.args.n in
    let e : n - l.i - 1 ≡ n - (l.i + 1) = omega arith in
    (rw e at (next-left (n - l.i) l.rest (omega arith) l.invariant.0 c.put_byte.ensures.wrote), c.put_byte.ensures.buffer ∙ l.invariant.1)
