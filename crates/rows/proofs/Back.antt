-- Laws of the unions of rows: by all steps from some step on, and by one step after the other.
-- Assumes nothing.
use Rattle.std.proofs.Common.{ℕ, suc, ◌+◌, ◌-◌, ◌≤◌, ◌<◌, ◌≡◌, refl, sym, ◌∙◌, ap, Bool, true, false, ◌&&◌, ◌||◌, arith, List, length, replicate, get_or, set, get_or-set_same, get_or-set_other, eqb, eqb-true, leb, ltb, leb-true, le-leb, ltb-true, ltb-false, true≢false}
use Rattle.std.proofs.Math.Bool.{and-true, and-false, and-eq-true_iff}
use Rattle.std.proofs.lemmas.Bool.{eqb-false}
use Rattle.std.proofs.lemmas.List.{get_or-replicate}
use Rattle.std.specs.Cmp.{both_ways}
use Rattle.channel.specs.Below.{any_below}
use Rattle.bits.specs.Bits.{bit_of}
use Rattle.bits.proofs.Laws.{bit_zero}
use Rattle.channel.proofs.Below.{any_below-from, any_below_to, any_below-none}

module _ (f : ℕ → Bool) (x : ℕ) (step : ℕ → Bool) where
  abbrev back : Bool
  back = any_below (suc x) (λ (n : ℕ). step (x - n) && f n)

  -- some row up to x is a step before it
  back-from : (n : ℕ) → n ≤ x → step (x - n) ≡ true → f n ≡ true → back ≡ true
  back-from n h s e = any_below-from (suc x) (λ (n : ℕ). step (x - n) && f n) n (omega arith) (rw (s, e) refl)

  back_to : back ≡ true → (n : ℕ) × (n ≤ x) × (step (x - n) ≡ true) × (f n ≡ true)
  back_to e =
      let (n, h, t) = any_below_to (suc x) (λ (n : ℕ). step (x - n) && f n) e in
      let (s, g) = (and-eq-true_iff (step (x - n)) (f n)).0 t in
      (n, omega arith, s, g)

  -- the steps from `least` on: the rows as many before it
  pub back-open : (least : ℕ) → ((k : ℕ) → k ≤ x → step k ≡ leb least k) → any_below (suc x - least) f ≡ back
  back-open least all = both_ways _ _ there again
    where
      there : any_below (suc x - least) f ≡ true → back ≡ true
      there e =
          let (n, h, t) = any_below_to (suc x - least) f e in
          back-from n (omega arith) (all (x - n) (omega arith) ∙ le-leb least (x - n) (omega arith)) t

      again : back ≡ true → any_below (suc x - least) f ≡ true
      again e =
          let (n, h, s, t) = back_to e in
          let far = leb-true least (x - n) (sym (all (x - n) (omega arith)) ∙ s) in
          any_below-from (suc x - least) f n (omega arith) t

  -- the steps below an end behind which none is that x has room for
  pub back-steps :
      (end : ℕ) → ((k : ℕ) → k ≤ x → end ≤ k → step k ≡ false)
      → any_below end (λ (k : ℕ). leb k x && (step k && f (x - k))) ≡ back
  back-steps end none = both_ways _ _ there again
    where
      forward : ℕ → Bool
      forward k = leb k x && (step k && f (x - k))

      there : any_below end forward ≡ true → back ≡ true
      there e =
          let (k, h, t) = any_below_to end forward e in
          let (l, u) = (and-eq-true_iff (leb k x) (step k && f (x - k))).0 t in
          let (s, g) = (and-eq-true_iff (step k) (f (x - k))).0 u in
          let le = leb-true k x l in
          back-from (x - k) (omega arith) (ap step (omega arith) ∙ s) g

      again : back ≡ true → any_below end forward ≡ true
      again e =
          let (n, h, s, g) = back_to e in
          by-test n h s g (ltb (x - n) end) refl
        where
          by-test :
              (n : ℕ) → n ≤ x → step (x - n) ≡ true → f n ≡ true → (t : Bool) → ltb (x - n) end ≡ t → any_below end forward ≡ true
          by-test n h s g true t =
              any_below-from end forward (x - n) (ltb-true (x - n) end t)
              (rw (le-leb (x - n) x (omega arith), s) (ap f (omega arith) ∙ g))
          by-test n h s g false t =
              absurd (true≢false (sym s ∙ none (x - n) (omega arith) (ltb-false (x - n) end t)))

-- the numbers below one that is more by one
one_more : (f : ℕ → Bool) (n m : ℕ) → m ≡ suc n → any_below m f ≡ (f n || any_below n f)
one_more f n m e = rw e refl

-- by all steps from `least` on: what is found in the rows up to x, and the unions of the rows before x
module _ (f : ℕ → ℕ → Bool) (least : ℕ) where
  abbrev pub Found : ℕ → ℕ → Type 0
  Found x w = (y : ℕ) → bit_of w y ≡ any_below (x - least) (λ (n : ℕ). f n y)

  abbrev pub Made : ℕ → List ℕ → Type 0
  Made x unions = (n y : ℕ) → n < x → bit_of (get_or unions n 0) y ≡ any_below (suc n - least) (λ (n : ℕ). f n y)

  pub found_none : Found least 0
  found_none y = let none : 0 ≡ least - least = omega arith in rw (bit_zero y, ← none) refl

  pub found_more :
      (x w v : ℕ) → least ≤ x → ((y : ℕ) → bit_of v y ≡ (f (x - least) y || bit_of w y)) → Found x w → Found (x + 1) v
  found_more x w v h e so_far y =
      e y
      ∙ ap (λ (t : Bool). f (x - least) y || t) (so_far y)
      ∙ sym (one_more (λ (n : ℕ). f n y) (x - least) (x + 1 - least) (omega arith))

  pub made_none : least ≤ 64 → Made least (replicate 64 0)
  made_none few n y h =
      ap (λ (w : ℕ). bit_of w y) (get_or-replicate 64 n 0 0 (omega arith))
      ∙ (let none : 0 ≡ suc n - least = omega arith in rw (bit_zero y, ← none) refl)

  pub made_more :
      (x w : ℕ) (unions : List ℕ) → x < length unions → Found (x + 1) w → Made x unions → Made (x + 1) (set unions x w)
  made_more x w unions room found so_far n y h = by-test (eqb n x) refl
    where
      by-test : (t : Bool) → eqb n x ≡ t → bit_of (get_or (set unions x w) n 0) y ≡ any_below (suc n - least) (λ (n : ℕ). f n y)
      by-test true e =
          let same : n ≡ x = eqb-true n x e in
          rw (same, get_or-set_same unions x w 0 room) (found y ∙ ap (λ (n : ℕ). any_below n (λ (n : ℕ). f n y)) (omega arith))
      by-test false e =
          ap (λ (w : ℕ). bit_of w y) (get_or-set_other unions x n w 0 (eqb-false n x e)) ∙ so_far n y (omega (arith, eqb-false n x e))

-- no union by a step before the first
pub steps_none :
    (step : ℕ → Bool) (f : ℕ → ℕ → Bool) (least x y : ℕ) → x < 64 → ((k : ℕ) → k < least → step k ≡ false)
    → bit_of (get_or (replicate 64 0) x 0) y ≡ any_below least (λ (k : ℕ). leb k x && (step k && f (x - k) y))
steps_none step f least x y room none =
    ap (λ (w : ℕ). bit_of w y) (get_or-replicate 64 x 0 0 room)
    ∙ bit_zero y
    ∙ sym (any_below-none least (λ (k : ℕ). leb k x && (step k && f (x - k) y)) (λ k l. rw (none k l) (and-false (leb k x))))

-- two tests that agree where a third holds
pub same_where : (a b t : Bool) → t ≡ true → (a && t) ≡ (b && t) → a ≡ b
same_where a b true h e = sym (and-true a) ∙ e ∙ and-true b
same_where a b false h e = absurd (true≢false (sym h))
