-- How the bits of a word go through or, and, shifts and remainders.
-- Assumes nothing.
use Rattle.std.proofs.Common.{◌≡◌, ℕ, zero, suc, ◌+◌, ◌-◌, ◌*◌, ◌/◌, ◌%◌, ◌^◌, ◌<◌, ◌≤◌, Bool, true, false, ◌&&◌, ◌||◌, eqb, ltb, leb, ◌⊎◌, bit_and, bit_or, sym, refl, ap, ◌∙◌, inl, inr, add-zero, arith, w64, pow_pos, shr-shr, ltb-false, ltb-true, eq-eqb, ne_eqb, eqb-true, leb-false, leb-true}
use Rattle.std.proofs.Math.Nat.{div-eq_of_lt-le, two-pow-succ}
use Rattle.std.proofs.lemmas.Bool.{eqb-false}
use Rattle.std.proofs.lemmas.Nat.{and_mod, or_mod, and_shr, or_shr, leading_length}
use Rattle.std.proofs.lemmas.Nat.Bits.{bit_at_lowest, bit_at-zero, bit_at_ones, bit_at-trailing_zeros, bit_at_above, bit_at_cat_low, bit_at_cat_high}
use Rattle.std.specs.Int.{bit_at, trailing_zeros}
use Rattle.std.specs.Int.Count.{count_leading_zeros, count_trailing_zeros, trailing_of_zero}
use Rattle.channel.proofs.Below.{any_below_cong, any_below-from, any_below_to, any_below-none}
use Rattle.bits.specs.Bits.{bit_of, in_word}

-- the last bit
odd : ℕ → Bool
odd n = eqb (n % 2) 1

last_bit : (n : ℕ) → (n % 2 ≡ 0) ⊎ (n % 2 ≡ 1)
last_bit n = by-test (eqb (n % 2) 1) refl
  where
    by-test : (b : Bool) → eqb (n % 2) 1 ≡ b → (n % 2 ≡ 0) ⊎ (n % 2 ≡ 1)
    by-test true e = inr (eqb-true (n % 2) 1 e)
    by-test false e = inl (omega (arith, eqb-false (n % 2) 1 e))

odd_or : (a b : ℕ) → odd (bit_or a b) ≡ (odd a || odd b)
unfolding odd
odd_or a b = ap (λ (n : ℕ). eqb n 1) (or_mod a b 1) ∙ by_bits (last_bit a) (last_bit b)
  where
    by_bits : (a % 2 ≡ 0) ⊎ (a % 2 ≡ 1) → (b % 2 ≡ 0) ⊎ (b % 2 ≡ 1) → eqb (bit_or (a % 2) (b % 2)) 1 ≡ (eqb (a % 2) 1 || eqb (b % 2) 1)
    by_bits (inl x) (inl y) = rw (x, y)
    by_bits (inl x) (inr y) = rw (x, y)
    by_bits (inr x) (inl y) = rw (x, y)
    by_bits (inr x) (inr y) = rw (x, y)

odd_and : (a b : ℕ) → odd (bit_and a b) ≡ (odd a && odd b)
unfolding odd
odd_and a b = ap (λ (n : ℕ). eqb n 1) (and_mod a b 1) ∙ by_bits (last_bit a) (last_bit b)
  where
    by_bits : (a % 2 ≡ 0) ⊎ (a % 2 ≡ 1) → (b % 2 ≡ 0) ⊎ (b % 2 ≡ 1) → eqb (bit_and (a % 2) (b % 2)) 1 ≡ (eqb (a % 2) 1 && eqb (b % 2) 1)
    by_bits (inl x) y = rw x
    by_bits (inr x) (inl y) = rw (x, y)
    by_bits (inr x) (inr y) = rw (x, y)

pub bit_of-bit_or : (a b k : ℕ) → bit_of (bit_or a b) k ≡ (bit_of a k || bit_of b k)
unfolding bit_of odd
bit_of-bit_or a b k = ap odd (or_shr a b k) ∙ odd_or (a / 2 ^ k) (b / 2 ^ k)

pub bit_of-bit_and : (a b k : ℕ) → bit_of (bit_and a b) k ≡ (bit_of a k && bit_of b k)
unfolding bit_of odd
bit_of-bit_and a b k = ap odd (and_shr a b k) ∙ odd_and (a / 2 ^ k) (b / 2 ^ k)

pub bit_zero : (k : ℕ) → bit_of 0 k ≡ false
unfolding bit_of
bit_zero k = ap (λ (n : ℕ). eqb n 1) (bit_at-zero k)

pub bit-first : (w : ℕ) → bit_of w 0 ≡ eqb (w % 2) 1
unfolding bit_of
bit-first w = ap (λ (n : ℕ). eqb n 1) (bit_at_lowest w)

-- a number below 2 ^ m has no bit from m on
pub bit_high : (w m k : ℕ) → w < 2 ^ m → m ≤ k → bit_of w k ≡ false
unfolding bit_of
bit_high w m k h g = ap (λ (n : ℕ). eqb n 1) (bit_at_above w m k h g)

pub bit_shr : (a e k : ℕ) → bit_of (a / 2 ^ e) k ≡ bit_of a (e + k)
unfolding bit_of
bit_shr a e k = ap (λ (n : ℕ). eqb (n % 2) 1) (shr-shr a e k)

-- a remainder by 2 ^ 64 keeps the bits below 64
pub bit-mod : (n k : ℕ) → k < 64 → bit_of (n % 2 ^ 64) k ≡ bit_of n k
unfolding bit_of
bit-mod n k h =
    let whole : n / 2 ^ 64 * 2 ^ 64 + n % 2 ^ 64 ≡ n = omega arith in
    ap (λ (m : ℕ). eqb m 1) (sym (bit_at_cat_low (n / 2 ^ 64) 64 (n % 2 ^ 64) k h) ∙ ap (λ (m : ℕ). bit_at m k) whole)

-- a number shifted up by e
pub bit_times : (a e k : ℕ) → bit_of (a * 2 ^ e) k ≡ (leb e k && bit_of a (k - e))
unfolding bit_of
bit_times a e k = by-test (leb e k) refl
  where
    by-test : (b : Bool) → leb e k ≡ b → eqb (bit_at (a * 2 ^ e) k) 1 ≡ (b && eqb (bit_at a (k - e)) 1)
    by-test true t =
        ap (λ (n : ℕ). eqb n 1)
        (ap (λ (n : ℕ). bit_at n k) (sym (add-zero (a * 2 ^ e))) ∙ bit_at_cat_high a e 0 k (pow_pos e) (leb-true e k t))
    by-test false t =
        ap (λ (n : ℕ). eqb n 1)
        (ap (λ (n : ℕ). bit_at n k) (sym (add-zero (a * 2 ^ e))) ∙ bit_at_cat_low a e 0 k (leb-false e k t) ∙ bit_at-zero k)

pub bit_shl : (a e k : ℕ) → k < 64 → bit_of (a * 2 ^ e % 2 ^ 64) k ≡ (leb e k && bit_of a (k - e))
bit_shl a e k h = bit-mod (a * 2 ^ e) k h ∙ bit_times a e k

-- the bits of 2 ^ m - 1
pub bit-ones : (m k : ℕ) → k < m → bit_of (2 ^ m - 1) k ≡ true
unfolding bit_of
bit-ones m k h = eq-eqb _ 1 (bit_at_ones m k h)

-- the set of k alone
pub bit_one : (m : ℕ) → bit_of 1 m ≡ eqb m 0
unfolding bit_of
bit_one zero = refl
bit_one (suc m) = bit_high 1 1 (suc m) (omega arith) (omega arith) ∙ sym (ne_eqb (suc m) 0 (omega arith))

difference_zero : (k n : ℕ) → k ≤ n → eqb (n - k) 0 ≡ eqb n k
difference_zero k n h = by-test (eqb n k) refl
  where
    by-test : (b : Bool) → eqb n k ≡ b → eqb (n - k) 0 ≡ b
    by-test true e = eq-eqb (n - k) 0 (omega (arith, eqb-true n k e))
    by-test false e = ne_eqb (n - k) 0 (λ z. eqb-false n k e (omega arith))

pub bit-single : (k n : ℕ) → n < 64 → bit_of (1 * 2 ^ k % 2 ^ 64) n ≡ eqb n k
bit-single k n h = bit_shl 1 k n h ∙ by-test (leb k n) refl
  where
    by-test : (b : Bool) → leb k n ≡ b → (b && bit_of 1 (n - k)) ≡ eqb n k
    by-test true e = bit_one (n - k) ∙ difference_zero k n (leb-true k n e)
    by-test false e = let less = leb-false k n e in sym (ne_eqb n k (omega arith))

-- what holds of a number below 64, as of a number below any bound
pub word_none : (f : ℕ → Bool) → ((k : ℕ) → k < 64 → f k ≡ false) → in_word f ≡ false
unfolding in_word
word_none f h = any_below-none 64 f h

pub word-from : (f : ℕ → Bool) (k : ℕ) → k < 64 → f k ≡ true → in_word f ≡ true
unfolding in_word
word-from f k h e = any_below-from 64 f k h e

pub word_to : (f : ℕ → Bool) → in_word f ≡ true → (k : ℕ) × (k < 64) × (f k ≡ true)
unfolding in_word
word_to f e = any_below_to 64 f e

pub word_cong : (f g : ℕ → Bool) → ((k : ℕ) → k < 64 → f k ≡ g k) → in_word f ≡ in_word g
unfolding in_word
word_cong f g h = any_below_cong 64 f g h

-- the numbers below k, as the high bits of a full word shifted down, and those from k on
pub bit-full : (n : ℕ) → n < 64 → bit_of 18446744073709551615 n ≡ true
bit-full n h = bit-ones 64 n h

pub bit_below : (k n : ℕ) → k ≤ 64 → bit_of (18446744073709551615 / 2 ^ (64 - k)) n ≡ ltb n k
bit_below k n h = bit_shr 18446744073709551615 (64 - k) n ∙ by-test (ltb n k) refl
  where
    by-test : (b : Bool) → ltb n k ≡ b → bit_of 18446744073709551615 (64 - k + n) ≡ b
    by-test true e = let less = ltb-true n k e in bit-full (64 - k + n) (omega arith)
    by-test false e = let more = ltb-false n k e in bit_high 18446744073709551615 64 (64 - k + n) (omega arith) (omega arith)

pub bit-from : (k n : ℕ) → n < 64 → bit_of (18446744073709551615 / 2 ^ k * 2 ^ k % 2 ^ 64) n ≡ leb k n
bit-from k n h = bit_shl (18446744073709551615 / 2 ^ k) k n h ∙ by-test (leb k n) refl
  where
    by-test : (b : Bool) → leb k n ≡ b → (b && bit_of (18446744073709551615 / 2 ^ k) (n - k)) ≡ b
    by-test true e =
        let more = leb-true k n e in
        bit_shr 18446744073709551615 k (n - k) ∙ bit-full (k + (n - k)) (omega arith)
    by-test false e = refl

-- a word of 64 bits is 0 exactly when it has no bit
pub some_bit : (w : ℕ) → w < 2 ^ 64 → (w ≡ 0 → ⊥) → (k : ℕ) × (k < 64) × (bit_of w k ≡ true)
unfolding bit_of
some_bit w h nz =
    let set = bit_at-trailing_zeros w64 w (omega (arith, nz)) h in
    (trailing_zeros w64 w, set.0, eq-eqb _ 1 set.1)

-- a word's lowest bit stands above its trailing zeros
pub lowest_bit :
    (w : ℕ) → w < 2 ^ 64
    → (count_trailing_zeros 64 w < 64 → bit_of w (count_trailing_zeros 64 w) ≡ true)
    × ((n : ℕ) → n < count_trailing_zeros 64 w → bit_of w n ≡ false)
unfolding bit_of
lowest_bit zero h = (λ l. absurd (omega (arith, trailing_of_zero 64)), λ n l. bit_zero n)
lowest_bit (suc w) h =
    let set = bit_at-trailing_zeros w64 (suc w) (omega arith) h in
    (λ l. eq-eqb _ 1 set.1, λ n l. ap (λ (d : ℕ). eqb d 1) (set.2 n l))

-- and its highest bit below its leading zeros
pub highest_bit :
    (w : ℕ) → w < 2 ^ 64
    → (0 < 64 - count_leading_zeros 64 w → bit_of w (64 - count_leading_zeros 64 w - 1) ≡ true)
    × ((n : ℕ) → 64 - count_leading_zeros 64 w ≤ n → bit_of w n ≡ false)
unfolding bit_of
highest_bit w h =
    let (m, size, below, above) = leading_length 64 w h in
    let end : 64 - count_leading_zeros 64 w ≡ m = omega arith in
    rw end (there m below above, λ n l. bit_high w m n below l)
  where
    there : (m : ℕ) → w < 2 ^ m → 2 ^ m ≤ 2 * w + 1 → 0 < m → eqb (w / 2 ^ (m - 1) % 2) 1 ≡ true
    there zero below above l = absurd (omega arith)
    there (suc m) below above l =
        let twice = two-pow-succ m in
        let one : w / 2 ^ (suc m - 1) ≡ 1 =
        ap (λ (k : ℕ). w / 2 ^ k) (omega arith) ∙ div-eq_of_lt-le (2 ^ m) (omega arith) (omega arith) in
        eq-eqb _ 1 (omega arith)
