-- Sixteen bits hold the difference of two columns, and that less a bound, so the machine's signed differences and tests are the
-- definition's.
-- Assumes nothing.
use Rattle.std.proofs.Common.{◌≡◌, ℕ, zero, suc, ◌+◌, ◌-◌, ◌<◌, ◌≤◌, Bool, true, false, cond, ltb, ltb-true, ℤ, pos, negsuc, ◌-ℤ◌, ◌+ℤ◌, zero-add, sym, ◌∙◌, subst, ap₂, arith, w16, SFits, to_z, of_z, ap, Some, None}
use Rattle.std.proofs.Math.IntN.{ -ℤ-+ℤ_cancel}
use Rattle.std.proofs.lemmas.Int.{to_z-of_z}
use Rattle.std.specs.Int.Signed.{lt_z, mag}
use Rattle.channel.specs.Distance.{distance, amount}
use Rattle.terminal.specs.Amount.{out_of_range}
use Rattle.terminal.proofs.Laws.{zero_false}

-- a number other than a bound is not 0 away from it
apart : (z : ℤ) (k : ℕ) → (z ≡ pos k → ⊥) → Some (z -ℤ pos k) ≡ out_of_range (z -ℤ pos k)
apart z k h = rw (zero_false (z -ℤ pos k) (λ e. h (sym (-ℤ-+ℤ_cancel z (pos k)) ∙ ap (λ (d : ℤ). d +ℤ pos k) e ∙ ap pos (zero-add k))))

same_not_less : (k : ℕ) → lt_z (pos k) (pos k) ≡ true → ⊥
same_not_less k h = omega (arith, ltb-true k k h)

-- what is taken from a number moves its size by no more
size_minus : (z : ℤ) (k : ℕ) → mag (z -ℤ pos k) ≤ mag z + k
size_minus (pos a) zero = omega arith
size_minus (pos a) (suc k) = go (ltb a (suc k))
  where
    go : (t : Bool) → mag (cond t (negsuc (suc k - suc a)) (pos (a - suc k))) ≤ a + suc k
    go true = omega arith
    go false = omega arith
size_minus (negsuc a) zero = go (ltb 0 (suc a))
  where
    go : (t : Bool) → mag (cond t (negsuc (suc a - suc 0)) (pos (0 - suc a))) ≤ a + 0
    go true = omega arith
    go false = omega arith
size_minus (negsuc a) (suc k) = omega arith

-- a byte is read as itself
byte : (n : ℕ) → n < 256 → to_z w16 n ≡ pos n
byte n h = to_z-of_z w16 (pos n) (record { sfits = omega arith })

-- a word that is read as z, less a byte
module _ (m k : ℕ) (z : ℤ) (held : to_z w16 m ≡ z) (small : mag z < 512) (fits : k < 256) where
  exact : to_z w16 m -ℤ to_z w16 k ≡ z -ℤ pos k
  exact = ap₂ (λ (x y : ℤ). x -ℤ y) held (byte k fits)

  less-fits : SFits w16 (to_z w16 m -ℤ to_z w16 k)
  less-fits = subst (SFits w16) (sym exact) (record { sfits = omega (arith, size_minus z k) })

  less-held : to_z w16 (of_z w16 (to_z w16 m -ℤ to_z w16 k)) ≡ z -ℤ pos k
  less-held = to_z-of_z w16 _ less-fits ∙ exact

module _ {before column : ℕ} (b : before < 256) (c : column < 256) where
  -- the word that the distance is kept in
  abbrev word : ℕ
  word = of_z w16 (to_z w16 column -ℤ to_z w16 before)

  held : to_z w16 word ≡ distance before column
  held = less-held column before (pos column) (byte column c) (omega arith) b

  small : mag (distance before column) < 512
  small = omega (arith, size_minus (pos column) before)

  module _ {least greatest : ℕ} (l : least < 256) (g : greatest < 256) where
    short-read : lt_z (to_z w16 word) (to_z w16 least) ≡ lt_z (distance before column) (pos least)
    short-read = ap₂ lt_z held (byte least l)

    long-read : lt_z (to_z w16 greatest) (to_z w16 word) ≡ lt_z (pos greatest) (distance before column)
    long-read = ap₂ lt_z (byte greatest g) held

    -- each of the three answers
    pub short-held :
        lt_z (to_z w16 word) (to_z w16 least) ≡ true
        → Some (to_z w16 (of_z w16 (to_z w16 word -ℤ to_z w16 least))) ≡ out_of_range (amount least greatest before column)
    unfolding amount
    short-held h =
        let less = sym short-read ∙ h in
        ap Some (less-held word least (distance before column) held small l)
        ∙ apart (distance before column) least (λ e. same_not_less least (rw e at less))
        ∙ sym (rw less)

    module _ (h : lt_z (to_z w16 word) (to_z w16 least) ≡ false) where
      pub long-held :
          lt_z (to_z w16 greatest) (to_z w16 word) ≡ true
          → Some (to_z w16 (of_z w16 (to_z w16 word -ℤ to_z w16 greatest))) ≡ out_of_range (amount least greatest before column)
      unfolding amount
      long-held k =
          let more = sym long-read ∙ k in
          ap Some (less-held word greatest (distance before column) held small g)
          ∙ apart (distance before column) greatest (λ e. same_not_less greatest (rw e at more))
          ∙ sym (rw (sym short-read ∙ h, more))

      pub range-held : lt_z (to_z w16 greatest) (to_z w16 word) ≡ false → None ≡ out_of_range (amount least greatest before column)
      unfolding amount
      range-held k = sym (rw (sym short-read ∙ h, sym long-read ∙ k))
