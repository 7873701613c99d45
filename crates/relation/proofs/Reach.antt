-- Laws of what is reached: more numbers may stand between, one is reached from another through a third, and a first step is taken.
-- Assumes nothing.
use Rattle.std.proofs.Common.{◌≡◌, ℕ, zero, suc, ◌≤◌, ◌<◌, Bool, true, ◌&&◌, ◌⊎◌, inl, inr, arith, refl, subst}
use Rattle.std.proofs.lemmas.Bool.{and_from, and_parts, or_cases, or_left, or_right, cases_lt}
use Rattle.relation.specs.Relation.{reaches}

module _ (leads : ℕ → ℕ → Bool) where
  -- b is reached without k between, or from k, which is reached
  pub cases-reaches :
      (k a b : ℕ) → reaches leads (suc k) a b ≡ true
      → (reaches leads k a b ≡ true) ⊎ ((reaches leads k a k ≡ true) × (reaches leads k k b ≡ true))
  unfolding reaches
  cases-reaches k a b h = split (or_cases (reaches leads k a b) _ h)
    where
      split :
          (reaches leads k a b ≡ true) ⊎ ((reaches leads k a k && reaches leads k k b) ≡ true)
          → (reaches leads k a b ≡ true) ⊎ ((reaches leads k a k ≡ true) × (reaches leads k k b ≡ true))
      split (inl p) = inl p
      split (inr p) = inr (and_parts _ _ p)

  one_more : (k a b : ℕ) → reaches leads k a b ≡ true → reaches leads (suc k) a b ≡ true
  unfolding reaches
  one_more k a b h = or_left _ _ h

  through : (k a b : ℕ) → reaches leads k a k ≡ true → reaches leads k k b ≡ true → reaches leads (suc k) a b ≡ true
  unfolding reaches
  through k a b p q = or_right _ _ (and_from _ _ p q)

  pub reaches_wider : (j k a b : ℕ) → j ≤ k → reaches leads j a b ≡ true → reaches leads k a b ≡ true
  reaches_wider j zero a b l h = subst (λ (i : ℕ). reaches leads i a b ≡ true) (omega arith) h
  reaches_wider j (suc k) a b l h = split (cases_lt j (suc k)) (λ p. reaches_wider j k a b p h)
    where
      split : (j < suc k) ⊎ (suc k ≤ j) → (j ≤ k → reaches leads k a b ≡ true) → reaches leads (suc k) a b ≡ true
      split (inl p) narrow = one_more k a b (narrow (omega arith))
      split (inr p) narrow = subst (λ (i : ℕ). reaches leads i a b ≡ true) (omega arith) h

  pub reaches-step : (k a b : ℕ) → leads a b ≡ true → reaches leads k a b ≡ true
  unfolding reaches
  reaches-step zero a b h = h
  reaches-step (suc k) a b h = one_more k a b (reaches-step k a b h)

  -- from a through x to b
  pub reaches-through :
      (k a x b : ℕ) → x < k → reaches leads k a x ≡ true → reaches leads k x b ≡ true → reaches leads k a b ≡ true
  reaches-through zero a x b l p q = absurd (omega arith)
  reaches-through (suc k) a x b l p q =
      go (cases_lt x k) (reaches-through k a x) (reaches-through k k x b) (cases-reaches k a x p) (cases-reaches k x b q)
    where
      Ways : ℕ → ℕ → Type 0
      Ways c d = (reaches leads k c d ≡ true) ⊎ ((reaches leads k c k ≡ true) × (reaches leads k k d ≡ true))

      to : (c : ℕ) → Ways c k → reaches leads k c k ≡ true
      to c (inl h) = h
      to c (inr h) = h.0

      away : (d : ℕ) → Ways k d → reaches leads k k d ≡ true
      away d (inl h) = h
      away d (inr h) = h.1

      go :
          (x < k) ⊎ (k ≤ x)
          → ((d : ℕ) → x < k → reaches leads k a x ≡ true → reaches leads k x d ≡ true → reaches leads k a d ≡ true)
          → (x < k → reaches leads k k x ≡ true → reaches leads k x b ≡ true → reaches leads k k b ≡ true)
          → Ways a x → Ways x b → reaches leads (suc k) a b ≡ true
      go (inr h) past out u v =
          let last : x ≡ k = omega arith in
          through k a b (to a (rw last at u)) (away b (rw last at v))
      go (inl h) past out (inl u) (inl v) = one_more k a b (past b h u v)
      go (inl h) past out (inl u) (inr v) = through k a b (past k h u v.0) v.1
      go (inl h) past out (inr u) (inl v) = through k a b u.0 (out h u.1 v)
      go (inl h) past out (inr u) (inr v) = through k a b u.0 v.1

  -- a first step leads to b, or to a number from which b is reached
  pub first-step :
      (n k a b : ℕ) → k ≤ n → reaches leads k a b ≡ true
      → (d : ℕ) × (leads a d ≡ true) × ((d ≡ b) ⊎ ((d < n) × (reaches leads n d b ≡ true)))
  unfolding reaches
  first-step n zero a b l h = (b, h, inl refl)
  first-step n (suc k) a b l h = go (cases-reaches k a b h) (first-step n k a b (omega arith)) (first-step n k a k (omega arith))
    where
      First : ℕ → Type 0
      First c = (d : ℕ) × (leads a d ≡ true) × ((d ≡ c) ⊎ ((d < n) × (reaches leads n d c ≡ true)))

      on : reaches leads k k b ≡ true → First k → First b
      on q (d, e, inl z) = (d, e, inr (omega (arith, z), rw z (reaches_wider k n k b (omega arith) q)))
      on q (d, e, inr z) = (d, e, inr (z.0, reaches-through n d k b (omega arith) z.1 (reaches_wider k n k b (omega arith) q)))

      go :
          (reaches leads k a b ≡ true) ⊎ ((reaches leads k a k ≡ true) × (reaches leads k k b ≡ true))
          → (reaches leads k a b ≡ true → First b) → (reaches leads k a k ≡ true → First k) → First b
      go (inl p) without to = without p
      go (inr p) without to = on p.1 (to p.0)
