-- What the amount of a distance says: 0 exactly in range, else by how many columns the distance breaks a bound, and which.
-- Assumes nothing.
use Rattle.std.proofs.Common.{◌≡◌, ℕ, zero, suc, ◌+◌, ◌-◌, ◌<◌, ◌≤◌, Bool, true, false, ltb, leb, pos, negsuc, ◌-ℤ◌, neg_ℤ, nat_abs, sym, refl, ap, arith, ltb→lt, lt→ltb, le-ltb, lt-ltb, le-leb, leb-false, leb-true}
use Rattle.std.proofs.Math.Bool.{and-eq-true_iff}
use Rattle.std.proofs.Math.IntN.{pos-ne-negsuc}
use Rattle.std.specs.Int.Signed.{lt_z_yes}
use Rattle.channel.specs.Assignment.{in_range}
use Rattle.channel.specs.Distance.{distance, amount, Says}

-- differences of numbers, by their order
minus_long : (n k : ℕ) → k ≤ n → pos n -ℤ pos k ≡ pos (n - k)
minus_long n zero h = ap pos (omega arith)
minus_long n (suc k) h = rw (le-ltb n (suc k) h)

minus_short : (n k : ℕ) → n < k → pos n -ℤ pos k ≡ negsuc (k - suc n)
minus_short n zero h = absurd (omega arith)
minus_short n (suc k) h = rw (lt-ltb n (suc k) h)

minus_more : (n k : ℕ) → negsuc n -ℤ pos k ≡ negsuc (n + k)
minus_more n zero = rw (lt-ltb 0 (suc n) (omega arith)) (ap negsuc (omega arith))
minus_more n (suc k) = ap negsuc (omega arith)

-- the three ways that a column can stand to the range
module _ (least greatest before column : ℕ) where
  too_short : column < before + least → amount least greatest before column ≡ negsuc (before + least - suc column)
  unfolding amount
  too_short h = by_order (leb before column) refl
    where
      by_order : (t : Bool) → leb before column ≡ t → amount least greatest before column ≡ negsuc (before + least - suc column)
      by_order true e =
          let at : before ≤ column = leb-true _ _ e in
          let left : column - before < least = omega arith in
          rw (minus_long column before at, lt-ltb _ _ left, minus_short _ _ left) (ap negsuc (omega arith))
      by_order false e =
          let left : column < before = leb-false _ _ e in
          rw (minus_short column before left, minus_more (before - suc column) least) (ap negsuc (omega arith))

  module _ (enough : before + least ≤ column) where
    apart : distance before column ≡ pos (column - before)
    apart = minus_long column before (omega arith)

    not_short : ltb (column - before) least ≡ false
    not_short = le-ltb (column - before) least (omega arith)

    too_long : before + greatest < column → amount least greatest before column ≡ pos (column - (before + greatest))
    unfolding amount
    too_long h =
        let right : greatest < column - before = omega arith in
        rw (apart, not_short, lt-ltb _ _ right, minus_long (column - before) greatest (omega arith)) (ap pos (omega arith))

    in-range : column ≤ before + greatest → amount least greatest before column ≡ pos 0
    unfolding amount
    in-range h =
        let right : column - before ≤ greatest = omega arith in
        rw (apart, not_short, le-ltb _ _ right)

  -- and what each amount says
  within : in_range least greatest before column ≡ true → (before + least ≤ column) × (column ≤ before + greatest)
  within e =
      let (low, high) = (and-eq-true_iff (leb (before + least) column) (leb column (before + greatest))).0 e in
      (leb-true _ _ low, leb-true _ _ high)

  says_short : column < before + least → Says least greatest before column (negsuc (before + least - suc column))
  says_short h =
      record {
        zero = (λ e. absurd (pos-ne-negsuc 0 _ (sym e)), λ e. absurd (omega (arith, (within e).0)));
        negative = (λ e. omega arith, λ e. lt_z_yes tt);
        positive = (λ e. absurd e.lt, λ e. absurd (omega (arith, e.0)));
        short = λ e. sym (ap (λ (n : ℕ). neg_ℤ (pos n)) more);
        long = λ e f. absurd (omega arith);
      }
    where
      more : before + least - column ≡ suc (before + least - suc column)
      more = omega arith

  module _ (enough : before + least ≤ column) where
    says-long : before + greatest < column → Says least greatest before column (pos (column - (before + greatest)))
    says-long h =
        record {
          zero = (λ e. absurd (omega (arith, ap nat_abs e)), λ e. absurd (omega (arith, (within e).1)));
          negative = (λ e. absurd (omega (arith, ltb→lt (column - (before + greatest)) 0 e.lt)), λ e. absurd (omega arith));
          positive = (λ e. (enough, h), λ e. lt_z_yes (lt→ltb 0 _ right));
          short = λ e. absurd (omega arith);
          long = λ e f. refl;
        }
      where
        right : 0 < column - (before + greatest)
        right = omega arith

    says-within : column ≤ before + greatest → Says least greatest before column (pos 0)
    says-within h =
        record {
          zero = (λ e. simp (le-leb _ _ enough, le-leb _ _ h), λ e. refl);
          negative = (λ e. absurd (omega (arith, ltb→lt 0 0 e.lt)), λ e. absurd (omega arith));
          positive = (λ e. absurd (omega (arith, ltb→lt 0 0 e.lt)), λ e. absurd (omega (arith, e.1)));
          short = λ e. absurd (omega arith);
          long = λ e f. absurd (omega arith);
        }

  -- of every distance and every range
  pub amount_says : Says least greatest before column (amount least greatest before column)
  amount_says = by-least (leb (before + least) column) refl
    where
      by-greatest : before + least ≤ column → (t : Bool) → leb column (before + greatest) ≡ t
          → Says least greatest before column (amount least greatest before column)
      by-greatest enough true e = rw (in-range enough (leb-true _ _ e)) (says-within enough (leb-true _ _ e))
      by-greatest enough false e = rw (too_long enough (leb-false _ _ e)) (says-long enough (leb-false _ _ e))

      by-least : (t : Bool) → leb (before + least) column ≡ t → Says least greatest before column (amount least greatest before column)
      by-least true e = by-greatest (leb-true _ _ e) (leb column (before + greatest)) refl
      by-least false e = rw (too_short (leb-false _ _ e)) (says_short (leb-false _ _ e))

-- "Columns 5 then 2 with least 2 are −5", whatever the greatest distance is
pub five_then_two : (greatest : ℕ) → amount 2 greatest 5 2 ≡ neg_ℤ (pos 5)
unfolding amount
five_then_two greatest = refl
