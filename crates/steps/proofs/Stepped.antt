-- Laws of the steps from a set: one after the other, by all numbers from some number on, and by a run.
-- Assumes nothing.
use Rattle.std.proofs.Common.{ℕ, zero, suc, ◌+◌, ◌-◌, ◌*◌, ◌/◌, ◌%◌, ◌^◌, ◌≤◌, ◌<◌, ◌≡◌, refl, sym, ◌∙◌, ap, ap₂, Bool, true, false, ◌&&◌, ◌||◌, ◌⊎◌, inl, inr, arith, leb, ltb, bit_or, leb-true, leb-false, le-leb, lt-ltb, ltb-true, ltb-false, eq-eqb, ne_eqb}
use Rattle.std.proofs.Math.Bool.{and-false, or-true, or_assoc, and-eq-true_iff}
use Rattle.std.proofs.lemmas.Bool.{or_cases}
use Rattle.std.specs.Cmp.{both_ways}
use Rattle.channel.specs.Below.{any_below}
use Rattle.channel.proofs.Below.{any_below-from, any_below_to, any_below-none}
use Rattle.bits.specs.Bits.{bit_of}
use Rattle.steps.specs.Stepped.{stepped, covered}
use Rattle.bits.proofs.Laws.{bit_of-bit_or, bit_zero, bit-first, bit_shr, bit_shl}

-- a test moved up by one, which fails at 0
some_moved : (n : ℕ) (f g : ℕ → Bool) → g 0 ≡ false → ((k : ℕ) → k < n → g (suc k) ≡ f k) → any_below (suc n) g ≡ any_below n f
some_moved zero f g z h = rw z
some_moved (suc n) f g z h = ap₂ (λ (a b : Bool). a || b) (h n (omega arith)) (some_moved n f g z (λ k l. h k (omega arith)))

-- the steps by the lowest bit, and those by the rest from the set moved up by one
pub stepped-more :
    (w by n : ℕ) → n < 64
    → stepped w by n ≡ ((bit_of by 0 && bit_of w n) || stepped (w * 2 ^ 1 % 2 ^ 64) (by / 2 ^ 1) n)
unfolding stepped
stepped-more w by n h =
    ap₂ (λ (a b : Bool). a || b) (ap (λ (k : ℕ). bit_of by k && bit_of w n) (omega arith)) (sym (some_moved n stay move none moved))
  where
    stay : ℕ → Bool
    stay y = bit_of by (n - y) && bit_of w y

    move : ℕ → Bool
    move y = bit_of (by / 2 ^ 1) (n - y) && bit_of (w * 2 ^ 1 % 2 ^ 64) y

    none : move 0 ≡ false
    none = rw (bit_shl w 1 0 (omega arith)) (and-false (bit_of (by / 2 ^ 1) (n - 0)))

    moved : (k : ℕ) → k < n → move (suc k) ≡ stay k
    moved k l =
        ap₂ (λ (a b : Bool). a && b) (bit_shr by 1 (n - suc k) ∙ ap (bit_of by) (omega arith))
        (bit_shl w 1 (suc k) (omega arith) ∙ rw (le-leb 1 (suc k) (omega arith)) (ap (bit_of w) (omega arith)))

pub stepped-none : (w n : ℕ) → stepped w 0 n ≡ false
unfolding stepped
stepped-none w n = any_below-none (suc n) (λ (y : ℕ). bit_of 0 (n - y) && bit_of w y) (λ y l. rw (bit_zero (n - y)))

-- by a step of any number from a on, all numbers from the lowest plus a on are reached
pub stepped-open :
    (w by low a n : ℕ) → n < 64 → (low < 64 → bit_of w low ≡ true) → ((m : ℕ) → m < low → bit_of w m ≡ false)
    → ((m : ℕ) → m < 64 → bit_of by m ≡ leb a m) → leb (low + a) n ≡ stepped w by n
unfolding stepped
stepped-open w by low a n h there none all = by-test (leb (low + a) n) refl
  where
    step : ℕ → Bool
    step y = bit_of by (n - y) && bit_of w y

    by-test : (b : Bool) → leb (low + a) n ≡ b → b ≡ any_below (suc n) step
    by-test true e =
        let le = leb-true (low + a) n e in
        sym (any_below-from (suc n) step low (omega arith)
        (rw (all (n - low) (omega arith), le-leb a (n - low) (omega arith)) (there (omega arith))))
    by-test false e = sym (any_below-none (suc n) step (λ y l. short y l (leb a (n - y)) refl))
      where
        short : (y : ℕ) → y < suc n → (b : Bool) → leb a (n - y) ≡ b → step y ≡ false
        short y l true t =
            let far = leb-false (low + a) n e in
            let le = leb-true a (n - y) t in
            rw (none y (omega arith)) (and-false (bit_of by (n - y)))
        short y l false t = rw (all (n - y) (omega arith), t)

-- what is less than a width above a number of w
module _ (w : ℕ) where
  abbrev near : ℕ → ℕ → ℕ → Bool
  near width k y = ltb (k - y) width && bit_of w y

  covered-from : (width k y : ℕ) → y ≤ k → k - y < width → bit_of w y ≡ true → covered w width k ≡ true
  unfolding covered
  covered-from width k y h l e = any_below-from (suc k) (near width k) y (omega arith) (rw (lt-ltb (k - y) width l) e)

  covered_to : (width k : ℕ) → covered w width k ≡ true → (y : ℕ) × (y ≤ k) × (k - y < width) × (bit_of w y ≡ true)
  unfolding covered
  covered_to width k e =
      let (y, h, t) = any_below_to (suc k) (near width k) e in
      let (l, g) = (and-eq-true_iff (ltb (k - y) width) (bit_of w y)).0 t in
      (y, omega arith, ltb-true (k - y) width l, g)

  pub covered_one : (k : ℕ) → bit_of w k ≡ covered w 1 k
  covered_one k =
      both_ways (bit_of w k) (covered w 1 k) (λ e. covered-from 1 k k (omega arith) (omega arith) e)
      (λ e. let (y, h, l, g) = covered_to 1 k e in ap (bit_of w) (omega arith) ∙ g)

  -- moved up by no more than the width, it makes one longer
  pub covered_more : (a b k : ℕ) → b ≤ a → (covered w a k || (leb b k && covered w a (k - b))) ≡ covered w (a + b) k
  covered_more a b k h = both_ways _ _ there back
    where
      there : (covered w a k || (leb b k && covered w a (k - b))) ≡ true → covered w (a + b) k ≡ true
      there e = by_part (or_cases (covered w a k) (leb b k && covered w a (k - b)) e)
        where
          by_part : (covered w a k ≡ true) ⊎ ((leb b k && covered w a (k - b)) ≡ true) → covered w (a + b) k ≡ true
          by_part (inl t) = let (y, l, m, g) = covered_to a k t in covered-from (a + b) k y l (omega arith) g
          by_part (inr t) =
              let (s, u) = (and-eq-true_iff (leb b k) (covered w a (k - b))).0 t in
              let le = leb-true b k s in
              let (y, l, m, g) = covered_to a (k - b) u in
              covered-from (a + b) k y (omega arith) (omega arith) g

      back : covered w (a + b) k ≡ true → (covered w a k || (leb b k && covered w a (k - b))) ≡ true
      back e =
          let (y, l, m, g) = covered_to (a + b) k e in
          by-test y l m g (ltb (k - y) a) refl
        where
          by-test :
              (y : ℕ) → y ≤ k → k - y < a + b → bit_of w y ≡ true → (t : Bool) → ltb (k - y) a ≡ t
              → (covered w a k || (leb b k && covered w a (k - b))) ≡ true
          by-test y l m g true t = rw (covered-from a k y l (ltb-true (k - y) a t) g)
          by-test y l m g false t =
              let far = ltb-false (k - y) a t in
              rw (le-leb b k (omega arith), covered-from a (k - b) y (omega arith) (omega arith) g) (or-true (covered w a k))

  pub spread-more :
      (found a b k : ℕ) → k < 64 → b ≤ a → ((m : ℕ) → m < 64 → bit_of found m ≡ covered w a m)
      → bit_of (bit_or found (found * 2 ^ b % 2 ^ 64)) k ≡ covered w (a + b) k
  spread-more found a b k l h so_far =
      bit_of-bit_or found (found * 2 ^ b % 2 ^ 64) k
      ∙ ap₂ (λ (x y : Bool). x || y) (so_far k l) (bit_shl found b k l ∙ ap (λ (x : Bool). leb b k && x) (so_far (k - b) (omega arith)))
      ∙ covered_more a b k h

-- a step by a run is a move up by its start and then what is less than its width above
pub stepped-run :
    (w by a end n : ℕ) → n < 64 → ((m : ℕ) → m < 64 → bit_of by m ≡ (leb a m && ltb m end))
    → (leb a n && covered w (end - a) (n - a)) ≡ stepped w by n
unfolding stepped
stepped-run w by a end n h run = both_ways _ _ there back
  where
    step : ℕ → Bool
    step y = bit_of by (n - y) && bit_of w y

    there : (leb a n && covered w (end - a) (n - a)) ≡ true → any_below (suc n) step ≡ true
    there e =
        let (s, t) = (and-eq-true_iff (leb a n) (covered w (end - a) (n - a))).0 e in
        let le = leb-true a n s in
        let (y, l, m, g) = covered_to w (end - a) (n - a) t in
        any_below-from (suc n) step y (omega arith)
        (rw (run (n - y) (omega arith), le-leb a (n - y) (omega arith), lt-ltb (n - y) end (omega arith)) g)

    back : any_below (suc n) step ≡ true → (leb a n && covered w (end - a) (n - a)) ≡ true
    back e =
        let (y, l, t) = any_below_to (suc n) step e in
        let (s, g) = (and-eq-true_iff (bit_of by (n - y)) (bit_of w y)).0 t in
        let (p, q) = (and-eq-true_iff (leb a (n - y)) (ltb (n - y) end)).0 (sym (run (n - y) (omega arith)) ∙ s) in
        let le = leb-true a (n - y) p in
        let lt = ltb-true (n - y) end q in
        rw (le-leb a n (omega arith)) (covered-from w (end - a) (n - a) y (omega arith) (omega arith) g)

-- one turn of the steps: what is found so far, and what is still to be found by the bits that are left
module _ (moved left found n : ℕ) (h : n < 64) where
  abbrev rest : Bool
  rest = stepped (moved * 2 ^ 1 % 2 ^ 64) (left / 2 ^ 1) n

  pub odd_turn : left % 2 ≡ 1 → (bit_of found n || stepped moved left n) ≡ (bit_of (bit_or found moved) n || rest)
  odd_turn e =
      rw (stepped-more moved left n h, bit-first left, eq-eqb (left % 2) 1 e, bit_of-bit_or found moved n)
      (sym (or_assoc (bit_of found n) (bit_of moved n) rest))

  pub even_turn : (left % 2 ≡ 1 → ⊥) → (bit_of found n || stepped moved left n) ≡ (bit_of found n || rest)
  even_turn e = rw (stepped-more moved left n h, bit-first left, ne_eqb (left % 2) 1 e)
