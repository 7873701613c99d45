-- Laws of the steps back: they are steps from the other end, and where the steps have no end everything up to the last is reached.
-- Assumes nothing.
use Rattle.std.proofs.Common.{ℕ, suc, ◌+◌, ◌-◌, ltb-false, ◌*◌, ◌/◌, ◌%◌, ◌^◌, ◌≤◌, ◌<◌, ◌≡◌, refl, sym, ◌∙◌, ap, ap₂, Bool, true, false, cond, not, ◌&&◌, ◌||◌, arith, leb, ltb, eqb, bit_and, bit_or, leb-true, le-leb, lt-ltb, ltb-true, eqb-true, true≢false}
use Rattle.std.proofs.Math.Bool.{and-true, and-false, or-false, and-eq-true_iff}
use Rattle.std.specs.Cmp.{both_ways}
use Rattle.channel.specs.Below.{any_below}
use Rattle.channel.proofs.Below.{any_below-from, any_below_to}
use Rattle.bits.specs.Bits.{bit_of, in_word}
use Rattle.bits.proofs.Laws.{bit_of-bit_or, bit_of-bit_and, bit_shr, bit_shl}
use Rattle.steps.specs.Stepped.{stepped, stepped_back, Halves, exchanged}

-- from a number of w, and back
pub back-from : (w by k y : ℕ) → k ≤ y → y < 64 → bit_of by (y - k) ≡ true → bit_of w y ≡ true → stepped_back w by k ≡ true
unfolding stepped_back in_word
back-from w by k y h l s e =
    any_below-from 64 (λ (y : ℕ). leb k y && (bit_of by (y - k) && bit_of w y)) y l (rw (le-leb k y h, s, e))

pub back_to :
    (w by k : ℕ) → stepped_back w by k ≡ true
    → (y : ℕ) × (k ≤ y) × (y < 64) × (bit_of by (y - k) ≡ true) × (bit_of w y ≡ true)
unfolding stepped_back in_word
back_to w by k e =
    let (y, l, t) = any_below_to 64 (λ (y : ℕ). leb k y && (bit_of by (y - k) && bit_of w y)) e in
    let (h, u) = (and-eq-true_iff (leb k y) (bit_of by (y - k) && bit_of w y)).0 t in
    let (s, g) = (and-eq-true_iff (bit_of by (y - k)) (bit_of w y)).0 u in
    (y, leb-true k y h, l, s, g)

-- the same of the steps forward
pub stepped-from : (w by k y : ℕ) → y ≤ k → bit_of by (k - y) ≡ true → bit_of w y ≡ true → stepped w by k ≡ true
unfolding stepped
stepped-from w by k y h s e = any_below-from (suc k) (λ (y : ℕ). bit_of by (k - y) && bit_of w y) y (omega arith) (rw (s, e))

pub stepped_to : (w by k : ℕ) → stepped w by k ≡ true → (y : ℕ) × (y ≤ k) × (bit_of by (k - y) ≡ true) × (bit_of w y ≡ true)
unfolding stepped
stepped_to w by k e =
    let (y, l, t) = any_below_to (suc k) (λ (y : ℕ). bit_of by (k - y) && bit_of w y) e in
    let (s, g) = (and-eq-true_iff (bit_of by (k - y)) (bit_of w y)).0 t in
    (y, omega arith, s, g)

-- steps from the numbers counted from the other end
pub back-reversed :
    (w r by k : ℕ) → k < 64 → ((n : ℕ) → n < 64 → bit_of r n ≡ bit_of w (63 - n)) → stepped r by (63 - k) ≡ stepped_back w by k
back-reversed w r by k h turn = both_ways _ _ there back
  where
    there : stepped r by (63 - k) ≡ true → stepped_back w by k ≡ true
    there e =
        let (y, l, s, g) = stepped_to r by (63 - k) e in
        back-from w by k (63 - y) (omega arith) (omega arith) (ap (bit_of by) (omega arith) ∙ s) (sym (turn y (omega arith)) ∙ g)

    back : stepped_back w by k ≡ true → stepped r by (63 - k) ≡ true
    back e =
        let (y, l, m, s, g) = back_to w by k e in
        stepped-from r by (63 - k) (63 - y) (omega arith) (ap (bit_of by) (omega arith) ∙ s)
        (turn (63 - y) (omega arith) ∙ ap (bit_of w) (omega arith) ∙ g)

-- by a step of any number from a on, from all numbers up to the last less a
pub back-open :
    (w by end a k : ℕ) → end ≤ 64 → (0 < end → bit_of w (end - 1) ≡ true) → ((n : ℕ) → end ≤ n → bit_of w n ≡ false)
    → ((m : ℕ) → m < 64 → bit_of by m ≡ leb a m) → ltb k (end - a) ≡ stepped_back w by k
back-open w by end a k h there none all = both_ways _ _ reach back
  where
    reach : ltb k (end - a) ≡ true → stepped_back w by k ≡ true
    reach e =
        let l = ltb-true k (end - a) e in
        back-from w by k (end - 1) (omega arith) (omega arith)
        (all (end - 1 - k) (omega arith) ∙ le-leb a (end - 1 - k) (omega arith)) (there (omega arith))

    back : stepped_back w by k ≡ true → ltb k (end - a) ≡ true
    back e =
        let (y, l, m, s, g) = back_to w by k e in
        let far = leb-true a (y - k) (sym (all (y - k) (omega arith)) ∙ s) in
        within y l far g (ltb y end) refl
      where
        within : (y : ℕ) → k ≤ y → a ≤ y - k → bit_of w y ≡ true → (t : Bool) → ltb y end ≡ t → ltb k (end - a) ≡ true
        within y l far g true q = let m = ltb-true y end q in lt-ltb k (end - a) (omega arith)
        within y l far g false q = absurd (true≢false (sym g ∙ none y (ltb-false y end q)))

-- the numbers of `low` exchanged with those above them
pub exchange_bits :
    (w by low n : ℕ) → n < 64 → Halves by low
    → bit_of (bit_or (bit_and (w / 2 ^ by) low) (bit_and w low * 2 ^ by % 2 ^ 64)) n ≡ bit_of w (exchanged by low n)
unfolding exchanged
exchange_bits w by low n h halves =
    bit_of-bit_or _ _ n
    ∙ ap₂ (λ (a b : Bool). a || b) (bit_of-bit_and (w / 2 ^ by) low n ∙ ap (λ (a : Bool). a && bit_of low n) (bit_shr w by n))
    (bit_shl (bit_and w low) by n h ∙ ap (λ (a : Bool). leb by n && a) (bit_of-bit_and w low (n - by)))
    ∙ by-test (bit_of low n) (leb by n) (bit_of low (n - by)) (halves n h).0
  where
    by-test : (t a b : Bool) → (a && b) ≡ not t
        → ((bit_of w (by + n) && t) || (a && (bit_of w (n - by) && b))) ≡ bit_of w (cond t (n + by) (n - by))
    by-test true true true e = absurd (true≢false e)
    by-test true true false e = rw (and-true, and-false, or-false) (ap (bit_of w) (omega arith))
    by-test true false b e = rw (and-true, or-false) (ap (bit_of w) (omega arith))
    by-test false true true e = rw (and-false, and-true)
    by-test false true false e = absurd (true≢false (sym e))
    by-test false false b e = absurd (true≢false (sym e))

-- what is tested of each number below 64 holds of each
decided : (f : ℕ → Bool) → any_below 64 (λ (n : ℕ). not (f n)) ≡ false → (n : ℕ) → n < 64 → f n ≡ true
decided f e n h = by-test (f n) refl
  where
    by-test : (t : Bool) → f n ≡ t → t ≡ true
    by-test true q = refl
    by-test false q = absurd (true≢false (sym (any_below-from 64 (λ (n : ℕ). not (f n)) n h (ap not q)) ∙ e))

-- so of halves
abbrev half : ℕ → ℕ → ℕ → Bool
half by low n =
    cond (bit_of low n) (not (leb by n && bit_of low (n - by))) (leb by n && bit_of low (n - by)) && ltb (exchanged by low n) 64

halves : (by low : ℕ) → any_below 64 (λ (n : ℕ). not (half by low n)) ≡ false → Halves by low
halves by low e n h =
    let (one, less) = (and-eq-true_iff _ _).0 (decided (half by low) e n h) in
    (by-test (bit_of low n) (leb by n && bit_of low (n - by)) one, ltb-true _ 64 less)
  where
    by-test : (t a : Bool) → cond t (not a) a ≡ true → a ≡ not t
    by-test true true q = absurd (true≢false (sym q))
    by-test true false q = refl
    by-test false a q = q

-- those of `reversed`
pub ones : Halves 1 6148914691236517205
unfolding bit_of exchanged
ones = halves _ _ refl

pub twos : Halves 2 3689348814741910323
unfolding bit_of exchanged
twos = halves _ _ refl

pub fours : Halves 4 1085102592571150095
unfolding bit_of exchanged
fours = halves _ _ refl

pub eights : Halves 8 71777214294589695
unfolding bit_of exchanged
eights = halves _ _ refl

pub sixteens : Halves 16 281470681808895
unfolding bit_of exchanged
sixteens = halves _ _ refl

pub thirty-twos : Halves 32 4294967295
unfolding bit_of exchanged
thirty-twos = halves _ _ refl

-- all six exchanges take each number to the other end
abbrev all_six : ℕ → ℕ
all_six n =
    exchanged 1 6148914691236517205
    (exchanged 2 3689348814741910323
    (exchanged 4 1085102592571150095
    (exchanged 8 71777214294589695
    (exchanged 16 281470681808895
    (exchanged 32 4294967295 n)))))

pub other_end : (n : ℕ) → n < 64 → all_six n ≡ 63 - n
unfolding bit_of exchanged
other_end n h = eqb-true (all_six n) (63 - n) (decided (λ (n : ℕ). eqb (all_six n) (63 - n)) refl n h)
