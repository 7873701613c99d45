-- The weight of some nets of a list in which a net stands once, and of two tests that differ in that net alone.
-- Assumes nothing.
use Rattle.std.proofs.Common.{ℕ, suc, ◌+◌, ◌≤◌, ◌≡◌, refl, sym, ap, ◌∙◌, List, [], ◌∷◌, Bool, true, false, cond, ◌&&◌, ◌||◌, arith, length, eqb, eq-eqb, eqb-true}
use Rattle.std.proofs.Math.Bool.{or-true}
use Rattle.std.proofs.lemmas.Bool.{false≢true}
use Rattle.channel.specs.Density.{any, pin_count, weight, weight_of, distinct}
use Rattle.channel.specs.Cut.{has}
use Rattle.places.proofs.Numbers.{eqb_sym, any_has}

-- tests that agree but in n, over a list without n
weight-other : (f g : ℕ → Bool) (n : ℕ) → ((k : ℕ) → eqb k n ≡ false → f k ≡ g k) → (ns : List ℕ) → pin_count n ns ≡ 0
    → weight_of f ns ≡ weight_of g ns
weight-other f g n h [] e = refl
weight-other f g n h (k ∷ ks) e = go (eqb k n) refl e (weight-other f g n h ks)
  where
    go : (b : Bool) → eqb k n ≡ b → cond b (suc (pin_count n ks)) (pin_count n ks) ≡ 0
        → (pin_count n ks ≡ 0 → weight_of f ks ≡ weight_of g ks)
        → weight_of f (k ∷ ks) ≡ weight_of g (k ∷ ks)
    go true d e rest = absurd (omega arith)
    go false d e rest = rw (h k d, rest e)

-- and over a list in which n stands once
pub weight_change : (f g : ℕ → Bool) (n : ℕ) → ((k : ℕ) → eqb k n ≡ false → f k ≡ g k) → (ns : List ℕ) → pin_count n ns ≡ 1
    → weight_of g ns + cond (f n) (weight n) 0 ≡ weight_of f ns + cond (g n) (weight n) 0
weight_change f g n h [] e = absurd (omega arith)
weight_change f g n h (k ∷ ks) e = go (eqb k n) refl e (weight_change f g n h ks)
  where
    go : (b : Bool) → eqb k n ≡ b → cond b (suc (pin_count n ks)) (pin_count n ks) ≡ 1
        → (pin_count n ks ≡ 1 → weight_of g ks + cond (f n) (weight n) 0 ≡ weight_of f ks + cond (g n) (weight n) 0)
        → weight_of g (k ∷ ks) + cond (f n) (weight n) 0 ≡ weight_of f (k ∷ ks) + cond (g n) (weight n) 0
    go true d e rest =
        let same : k ≡ n = eqb-true k n d in
        let others : weight_of f ks ≡ weight_of g ks = weight-other f g n h ks (omega arith) in
        rw (same, others) (omega arith)
    go false d e rest = rw (h k d) (omega (arith, rest e))

-- nothing
weight_none : (ns : List ℕ) → weight_of (λ (k : ℕ). false) ns ≡ 0
weight_none [] = refl
weight_none (n ∷ ns) = omega (arith, weight_none ns)

-- a test that asks for n first
pub weight_one : (f : ℕ → Bool) (n : ℕ) (ns : List ℕ) → pin_count n ns ≡ 1 → weight_of (λ (k : ℕ). eqb n k && f k) ns ≡ cond (f n) (weight n) 0
weight_one f n ns e =
    let change = weight_change (λ (k : ℕ). false) (λ (k : ℕ). eqb n k && f k) n (λ k d. rw (eqb_sym n k, d)) ns e in
    omega (arith, rw (weight_none ns, eq-eqb n n refl) at change)

-- a test in two parts that never hold together
pub weight_parts : (f g h : ℕ → Bool) → ((k : ℕ) → cond (f k) 1 0 ≡ cond (g k) 1 0 + cond (h k) 1 0) → (ns : List ℕ)
    → weight_of f ns ≡ weight_of g ns + weight_of h ns
weight_parts f g h e [] = refl
weight_parts f g h e (n ∷ ns) = omega (arith, e n, weight_parts f g h e ns)

-- no more than all nets
pub weight_most : (f : ℕ → Bool) (ns : List ℕ) → weight_of f ns ≤ length ns
weight_most f [] = omega arith
weight_most f (n ∷ ns) = go (f n) (weight_most f ns)
  where
    go : (b : Bool) → weight_of f ns ≤ length ns → cond b (weight n) 0 + weight_of f ns ≤ length (n ∷ ns)
    go true h = omega arith
    go false h = omega arith

-- a net that is not in a list is not among the list's nets
distinct-none : (n : ℕ) (ns : List ℕ) → has n ns ≡ false → pin_count n (distinct ns) ≡ 0
distinct-none n [] e = refl
distinct-none n (k ∷ ks) e = go (eqb k n) refl (any (eqb k) ks) e (distinct-none n ks)
  where
    go : (b : Bool) → eqb k n ≡ b → (c : Bool) → (b || has n ks) ≡ false
        → (has n ks ≡ false → pin_count n (distinct ks) ≡ 0)
        → pin_count n (cond c (distinct ks) (k ∷ distinct ks)) ≡ 0
    go true d c e rest = absurd (false≢true (sym e))
    go false d true e rest = rest e
    go false d false e rest = rw d (rest e)

-- one that is in it is there once
pub distinct_once : (n : ℕ) (ns : List ℕ) → has n ns ≡ true → pin_count n (distinct ns) ≡ 1
distinct_once n [] e = absurd (false≢true e)
distinct_once n (k ∷ ks) e = go (eqb k n) refl (any (eqb k) ks) refl e (distinct_once n ks)
  where
    go : (b : Bool) → eqb k n ≡ b → (c : Bool) → any (eqb k) ks ≡ c → (b || has n ks) ≡ true
        → (has n ks ≡ true → pin_count n (distinct ks) ≡ 1)
        → pin_count n (cond c (distinct ks) (k ∷ distinct ks)) ≡ 1
    go true d true q e rest = rest (sym (any_has n ks) ∙ (rw (eqb-true k n d) at q))
    go true d false q e rest = rw d (ap suc (distinct-none n ks (sym (any_has n ks) ∙ (rw (eqb-true k n d) at q))))
    go false d true q e rest = rest e
    go false d false q e rest = rw d (rest e)

-- tests that agree in the nets of a list weigh the same over them
pub weight_members : (f g : ℕ → Bool) (ns : List ℕ) → ((k : ℕ) → has k ns ≡ true → f k ≡ g k) → weight_of f (distinct ns) ≡ weight_of g (distinct ns)
weight_members f g [] h = refl
weight_members f g (n ∷ ns) h =
    go (any (eqb n) ns) (h n (rw (eq-eqb n n refl))) (weight_members f g ns (λ k e. h k (rw (e, or-true))))
  where
    go : (b : Bool) → f n ≡ g n → weight_of f (distinct ns) ≡ weight_of g (distinct ns)
        → weight_of f (cond b (distinct ns) (n ∷ distinct ns)) ≡ weight_of g (cond b (distinct ns) (n ∷ distinct ns))
    go true e rest = rest
    go false e rest = rw (e, rest)
