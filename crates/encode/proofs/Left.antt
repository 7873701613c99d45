-- What a loop that writes has left to write.
-- Assumes nothing.
use Rattle.std.proofs.Common.{◌≡◌, ℕ, ◌+◌, List, [], ◌++◌, length, sym, refl, ◌∙◌, add-zero, arith, length-append}
use Rattle.std.proofs.Math.Seq.{sets}
use Rattle.text.specs.Writing.{Wrote}
use Rattle.text.proofs.Writes.{after, kept}

-- of `all`, written from `at` on, the rest is left, from `end` on: with it the buffer will be what it is to be
pub record Left (old : List ℕ) (at : ℕ) (all new : List ℕ) (end : ℕ) (rest : List ℕ) : Type 0 where
  pub bytes : sets new end rest ≡ sets old at all
  pub place : end + length rest ≡ at + length all
  pub size : length new ≡ length old

pub none_left : {old all new : List ℕ} {at end : ℕ} → Left old at all new end [] → Wrote old at all new end
none_left {end = end} left = record { bytes = left.bytes; place = sym (add-zero end) ∙ left.place }

-- a part of the rest is written
pub less-left :
    {old all mid t rest new : List ℕ} {at end end' : ℕ} → Left old at all mid end (t ++ rest) → Wrote mid end t new end'
    → Left old at all new end' rest
less-left {t = t} {rest} {new} {at} {end} {end'} left w =
    record {
      bytes = (after w (record { bytes = refl; place = refl })).bytes ∙ left.bytes;
      place = omega (arith, w.place, left.place, length-append t rest);
      size = kept w ∙ left.size;
    }
