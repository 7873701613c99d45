-- Laws of a test of the numbers below a bound: from a number that meets it and back, a part that does not depend on
-- the number, two numbers in either order, and a start before which no number meets it.
-- Assumes nothing.
use Rattle.std.proofs.Common.{◌≡◌, ℕ, zero, suc, ◌+◌, ◌<◌, Bool, true, false, ◌&&◌, ◌||◌, eqb, sym, refl, ap, ◌∙◌, ap₂, true≢false, suc-add, zero-add, arith, eqb-true}
use Rattle.std.proofs.Math.Bool.{and-false, or-true}
use Rattle.std.proofs.lemmas.Bool.{eqb-false}
use Rattle.channel.specs.Below.{any_below}

-- tests that agree below n
pub any_below_cong : (n : ℕ) (f g : ℕ → Bool) → ((k : ℕ) → k < n → f k ≡ g k) → any_below n f ≡ any_below n g
any_below_cong zero f g h = refl
any_below_cong (suc n) f g h = ap₂ (λ (a b : Bool). a || b) (h n (omega arith)) (any_below_cong n f g (λ k l. h k (omega arith)))

-- a number below n of which f holds
pub any_below-from : (n : ℕ) (f : ℕ → Bool) (k : ℕ) → k < n → f k ≡ true → any_below n f ≡ true
any_below-from zero f k h e = elim h [ ]
any_below-from (suc n) f k h e = by-test (λ l. any_below-from n f k l e) (eqb k n) refl
  where
    by-test : (k < n → any_below n f ≡ true) → (b : Bool) → eqb k n ≡ b → (f n || any_below n f) ≡ true
    by-test rest true t = rw (ap f (sym (eqb-true k n t)) ∙ e)
    by-test rest false t = rw (rest (omega (arith, eqb-false k n t))) (or-true (f n))

-- and back
pub any_below_to : (n : ℕ) (f : ℕ → Bool) → any_below n f ≡ true → (k : ℕ) × (k < n) × (f k ≡ true)
any_below_to zero f e = absurd (true≢false (sym e))
any_below_to (suc n) f e = by-test (any_below_to n f) (f n) refl e
  where
    by-test : (any_below n f ≡ true → (k : ℕ) × (k < n) × (f k ≡ true)) → (b : Bool) → f n ≡ b → (b || any_below n f) ≡ true
        → (k : ℕ) × (k < suc n) × (f k ≡ true)
    by-test rest true t o = (n, omega arith, t)
    by-test rest false t o = let (k, l, g) = rest o in (k, omega arith, g)

-- nothing below n
pub any_below-none : (n : ℕ) (f : ℕ → Bool) → ((k : ℕ) → k < n → f k ≡ false) → any_below n f ≡ false
any_below-none zero f h = refl
any_below-none (suc n) f h = rw (h n (omega arith)) (any_below-none n f (λ k l. h k (omega arith)))

-- a part of the test that does not depend on the number
pub any_below-and : (a : Bool) (n : ℕ) (f : ℕ → Bool) → (a && any_below n f) ≡ any_below n (λ (k : ℕ). a && f k)
any_below-and true n f = refl
any_below-and false n f = sym (any_below-none n _ (λ k l. refl))

-- some number meets the one or the other test
any_below-or : (n : ℕ) (f g : ℕ → Bool) → (any_below n f || any_below n g) ≡ any_below n (λ (k : ℕ). f k || g k)
any_below-or zero f g = refl
any_below-or (suc n) f g = turn (f n) (g n) (any_below n f) (any_below n g) ∙ ap (λ (t : Bool). (f n || g n) || t) (any_below-or n f g)
  where
    turn : (a b c d : Bool) → ((a || c) || (b || d)) ≡ ((a || b) || (c || d))
    turn true b c d = refl
    turn false true true d = refl
    turn false true false d = refl
    turn false false c d = refl

-- two numbers, in either order
any_below_swap :
    (n m : ℕ) (f : ℕ → ℕ → Bool)
    → any_below n (λ (k : ℕ). any_below m (λ (l : ℕ). f k l)) ≡ any_below m (λ (l : ℕ). any_below n (λ (k : ℕ). f k l))
any_below_swap zero m f = sym (any_below-none m _ (λ k l. refl))
any_below_swap (suc n) m f =
    ap (λ (t : Bool). any_below m (λ (l : ℕ). f n l) || t) (any_below_swap n m f) ∙ any_below-or m (λ (l : ℕ). f n l) _

-- where no number below k meets it, the numbers may be counted from k
pub any_below-from-start :
    (k x : ℕ) (f : ℕ → Bool) → ((t : ℕ) → t < k → f t ≡ false) → any_below (x + suc k) f ≡ any_below (suc x) (λ (n : ℕ). f (n + k))
any_below-from-start k zero f h = rw (zero-add (suc k), any_below-none k f h, zero-add k)
any_below-from-start k (suc x) f h =
    ap (λ (n : ℕ). any_below n f) (suc-add x (suc k))
    ∙ ap₂ (λ (a b : Bool). a || b) (ap f (omega arith)) (any_below-from-start k x f h)

-- the order of two parts
and_turn : (a b c : Bool) → (a && (b && c)) ≡ (b && (a && c))
and_turn true b c = refl
and_turn false b c = sym (and-false b)

-- a part that does not depend on the number goes with either half of the test
pub any_below_turn :
    (a b : Bool) (n : ℕ) (f g : ℕ → Bool)
    → (a && (b && any_below n (λ (k : ℕ). f k && g k))) ≡ (b && any_below n (λ (k : ℕ). f k && (a && g k)))
any_below_turn a b n f g =
    and_turn a b _
    ∙ ap (λ (t : Bool). b && t) (any_below-and a n (λ (k : ℕ). f k && g k) ∙ any_below_cong n _ _ (λ k l. and_turn a (f k) (g k)))

-- two numbers, each with a test of its own, and a test of both: the second looked for under the first's test, or both at once
pub any_below_nested :
    (n m : ℕ) (f g : ℕ → Bool) (h : ℕ → ℕ → Bool)
    → any_below m (λ (b : ℕ). g b && any_below n (λ (t : ℕ). f t && h t b))
    ≡ any_below n (λ (t : ℕ). any_below m (λ (b : ℕ). f t && (g b && h t b)))
any_below_nested n m f g h = any_below_cong m _ _ within ∙ any_below_swap m n (λ (b t : ℕ). f t && (g b && h t b))
  where
    within : (b : ℕ) → b < m → (g b && any_below n (λ (t : ℕ). f t && h t b)) ≡ any_below n (λ (t : ℕ). f t && (g b && h t b))
    within b l =
        any_below-and (g b) n (λ (t : ℕ). f t && h t b) ∙ any_below_cong n _ _ (λ t k. and_turn (g b) (f t) (h t b))
