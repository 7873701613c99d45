-- What a caller may use of the distance test: which amounts are 0, and that there is none exactly in range.
-- Assumes nothing.
use Rattle.std.proofs.Common.{◌≡◌, ℕ, zero, suc, ◌^◌, ◌<◌, Bool, true, false, ℤ, pos, negsuc, Option, is_some, not, sym, refl, ap, ◌∙◌, true≢false, to_z-of_z, w16, to_z, of_z}
use Rattle.std.proofs.lemmas.Bool.{false_from_ne_true}
use Rattle.std.specs.Int.Signed.{mag}
use mir.Val.{hbits}
use Rattle.channel.specs.Assignment.{in_range}
use Rattle.channel.specs.Distance.{amount}
use Rattle.channel.proofs.Distances.{amount_says}
use Rattle.terminal.specs.Amount.{is_zero, out_of_range}

pub zero_true : (z : ℤ) → is_zero z ≡ true → z ≡ pos 0
zero_true (pos zero) e = refl
zero_true (pos (suc n)) e = absurd (true≢false (sym e))
zero_true (negsuc n) e = absurd (true≢false (sym e))

pub zero_false : (z : ℤ) → (z ≡ pos 0 → ⊥) → is_zero z ≡ false
zero_false (pos zero) h = absurd (h refl)
zero_false (pos (suc n)) h = refl
zero_false (negsuc n) h = refl

-- the amount of a distance is 0 exactly in range
pub zero_amount : (least greatest before column : ℕ) → is_zero (amount least greatest before column) ≡ in_range least greatest before column
zero_amount least greatest before column = by-test (in_range least greatest before column) refl
  where
    by-test : (t : Bool) → in_range least greatest before column ≡ t → is_zero (amount least greatest before column) ≡ t
    by-test true e = ap is_zero ((amount_says least greatest before column).zero.1 e)
    by-test false e = zero_false _ (λ z. true≢false (sym ((amount_says least greatest before column).zero.0 z) ∙ e))

-- there is none exactly in range
module _ (least greatest before column : ℕ) {o : Option ℤ} (answer : o ≡ out_of_range (amount least greatest before column)) where
  within : not (is_some o) ≡ in_range least greatest before column
  within = ap (λ (p : Option ℤ). not (is_some p)) answer ∙ none_zero (amount least greatest before column) ∙ zero_amount least greatest before column
    where
      none_zero : (z : ℤ) → not (is_some (out_of_range z)) ≡ is_zero z
      none_zero (pos zero) = refl
      none_zero (pos (suc n)) = refl
      none_zero (negsuc n) = refl

  pub none_within : is_some o ≡ false → in_range least greatest before column ≡ true
  none_within e = sym within ∙ ap not e

  pub some_beyond : is_some o ≡ true → in_range least greatest before column ≡ false
  some_beyond e = sym within ∙ ap not e

-- sixteen bits that are all 0 hold 0
pub zero_bits : {z : ℤ} → mag z < 2 ^ hbits w16 → of_z w16 z ≡ 0 → z ≡ pos 0
zero_bits fits e = sym (to_z-of_z {w = w16} (record { sfits = fits })) ∙ ap (to_z w16) e

module _ (least greatest before column : ℕ) {r : ℤ} (fits : mag r < 2 ^ hbits w16) (answer : r ≡ amount least greatest before column) where
  pub zero_within : of_z w16 r ≡ 0 → in_range least greatest before column ≡ true
  zero_within e = (amount_says least greatest before column).zero.0 (sym answer ∙ zero_bits fits e)

  pub other_beyond : (of_z w16 r ≡ 0 → ⊥) → in_range least greatest before column ≡ false
  other_beyond h = false_from_ne_true _ (λ e. h (ap (of_z w16) (answer ∙ (amount_says least greatest before column).zero.1 e)))
