-- The one distance test tells both ends of a range: a distance of 0 is too short by the least distance, and one of 255 too long by what the
-- greatest leaves.
-- Assumes nothing.
use Rattle.std.proofs.Common.{ℕ, zero, suc, ◌+◌, ◌-◌, ◌<◌, ◌≤◌, ◌≡◌, refl, sym, ◌∙◌, ap, Bool, true, false, arith, ℤ, pos, negsuc, neg_ℤ, nat_abs, to_z-of_z, w16, to_z, of_z, ◌^◌, Option, Some, None, ltb, ltb-true, ltb-false, le-leb}
use Rattle.std.specs.Int.Signed.{mag}
use mir.Val.{hbits}
use Rattle.channel.specs.Assignment.{in_range}
use Rattle.channel.specs.Distance.{amount}
use Rattle.channel.proofs.Distances.{amount_says}
use Rattle.terminal.specs.Amount.{out_of_range}

-- the number of columns of an answer
abbrev size : Option ℤ → ℕ
size (Some z) = nat_abs z
size None = 0

-- so many columns, of an amount that is none or not
size_of : (z y : ℤ) → z ≡ y → size (out_of_range y) ≡ nat_abs y → size (out_of_range z) ≡ nat_abs y
size_of z y e h = ap (λ (x : ℤ). size (out_of_range x)) e ∙ h

-- the distance 0
short_size : (least greatest : ℕ) → size (out_of_range (amount least greatest 0 0)) ≡ least
short_size zero greatest =
    size_of _ (pos 0) ((amount_says 0 greatest 0 0).zero.1 (le-leb 0 (0 + greatest) (omega arith))) refl
short_size (suc k) greatest =
    let far : 0 + suc k - 0 ≡ suc k = omega arith in
    size_of _ (negsuc k) ((amount_says (suc k) greatest 0 0).short (omega arith) ∙ ap (λ (n : ℕ). neg_ℤ (pos n)) far) refl

-- the distance 255
long_size : (least greatest : ℕ) → least ≤ 255 → greatest ≤ 255 → size (out_of_range (amount least greatest 0 255)) ≡ 255 - greatest
long_size least greatest h g = by-test (ltb greatest 255) refl
  where
    by-test : (t : Bool) → ltb greatest 255 ≡ t → size (out_of_range (amount least greatest 0 255)) ≡ 255 - greatest
    by-test true e =
        let less : greatest < 255 = ltb-true greatest 255 e in
        let far : 255 - (0 + greatest) ≡ suc (254 - greatest) = omega arith in
        size_of _ (pos (suc (254 - greatest))) ((amount_says least greatest 0 255).long (omega arith) (omega arith) ∙ ap pos far) refl ∙ omega arith
    by-test false e =
        size_of _ (pos 0) ((amount_says least greatest 0 255).zero.1 (both_in (omega arith) (omega (arith, ltb-false greatest 255 e)))) refl
        ∙ omega (arith, ltb-false greatest 255 e)
      where
        both_in : 0 + least ≤ 255 → 255 ≤ 0 + greatest → in_range least greatest 0 255 ≡ true
        both_in a b = rw (le-leb (0 + least) 255 a, le-leb 255 (0 + greatest) b)

-- so much of an amount goes through its sixteen bits
kept : (z : ℤ) (n : ℕ) → nat_abs z ≡ n → n ≤ 255 → nat_abs (to_z w16 (of_z w16 z)) ≡ n
kept z n e h = ap nat_abs {y = z} (to_z-of_z {w = w16} (record { sfits = small z e })) ∙ e
  where
    small : (z : ℤ) → nat_abs z ≡ n → mag z < 2 ^ hbits w16
    small (pos k) e = omega (arith, e)
    small (negsuc k) e = omega (arith, e)

module _ (least greatest : ℕ) (h : least ≤ 255) (g : greatest ≤ 255) where
  pub least_some : (z : ℤ) → out_of_range (amount least greatest 0 0) ≡ Some z → nat_abs (to_z w16 (of_z w16 z)) ≡ least
  least_some z e = kept z least (ap size (sym e) ∙ short_size least greatest) h

  pub least_none : out_of_range (amount least greatest 0 0) ≡ None → 0 ≡ least
  least_none e = ap size (sym e) ∙ short_size least greatest

  pub greatest_some : (z : ℤ) → out_of_range (amount least greatest 0 255) ≡ Some z → nat_abs (to_z w16 (of_z w16 z)) ≡ 255 - greatest
  greatest_some z e = kept z (255 - greatest) (ap size (sym e) ∙ long_size least greatest h g) (omega arith)

  pub greatest_none : out_of_range (amount least greatest 0 255) ≡ None → 0 ≡ 255 - greatest
  greatest_none e = ap size (sym e) ∙ long_size least greatest h g
