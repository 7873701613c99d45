-- What the number of nets and the net on a circle say of chains of nets. Where no constraint is on a circle, a walk over the constraints
-- has fewer steps than there are constraints, so that the longest of all is found.
-- Assumes nothing.
use Rattle.std.proofs.Common.{◌≡◌, ℕ, zero, suc, ◌+◌, ◌≤◌, ◌<◌, ◌↔◌, Bool, true, false, cond, ◌⊎◌, inl, inr, eqb, ne_eqb, List, [], ◌∷◌, min, subst, length, Option, Some, None, refl, sym, ◌∙◌, arith, true≢false}
use Rattle.std.proofs.lemmas.Bool.{and_parts, cases_lt, eqb-false, false_from_ne_true}
use Rattle.relation.specs.Relation.{path, longest}
use Rattle.relation.proofs.Longest.{longest-most, longest-reached, short}
use Rattle.constraints.specs.declared.Constraint.{Constraint}
use Rattle.constraints.specs.Listed.{listed_over}
use Rattle.chains.specs.Chains.{constraint_at, follows, longest_chain, circles, lesser, least, lowest_on_circle}
use Rattle.chains.proofs.Nets.{chain_walk, walk_chain, circle_chain, chain_circle}

-- the least of some numbers is one of them, and no other is less; it is missing exactly where there are none
module _ (f : ℕ → Bool) (g : ℕ → ℕ) where
  abbrev One : ℕ → ℕ → Type 0
  One n m = (i : ℕ) × (i < n) × (f i ≡ true) × (g i ≡ m)

  abbrev Least : ℕ → Option ℕ → Type 0
  Least n None = (i : ℕ) → i < n → f i ≡ false
  Least n (Some m) = One n m × ((i : ℕ) → i < n → f i ≡ true → m ≤ g i)

  -- the numbers below suc n are those below n, and n
  each : (n : ℕ) (P : ℕ → Type 0) → P n → ((i : ℕ) → i < n → P i) → (i : ℕ) → i < suc n → P i
  each n P last before i h = go (cases_lt i n)
    where
      go : (i < n) ⊎ (n ≤ i) → P i
      go (inl l) = before i l
      go (inr l) = let same : n ≡ i = omega arith in subst P same last

  least-is : (n : ℕ) → Least n (least f g n)
  least-is zero = λ i h. absurd (omega arith)
  least-is (suc n) = go (f n) refl (least f g n) (least-is n)
    where
      wider : (m : ℕ) → One n m → One (suc n) m
      wider m (i, l, p, q) = (i, omega arith, p, q)

      go : (t : Bool) → f n ≡ t → (o : Option ℕ) → Least n o → Least (suc n) (cond t (Some (lesser (g n) o)) o)
      go false e None r = each n (λ (i : ℕ). f i ≡ false) e r
      go false e (Some m) r =
          (wider m r.0, each n (λ (i : ℕ). f i ≡ true → m ≤ g i) (λ p. absurd (true≢false (sym p ∙ e))) r.1)
      go true e None r = (
        (n, omega arith, e, refl),
        each n (λ (i : ℕ). f i ≡ true → g n ≤ g i) (λ _. omega arith) (λ i l p. absurd (true≢false (sym p ∙ r i l))),
      )
      go true e (Some m) r = (
        one (cases_lt m (g n)),
        each n (λ (i : ℕ). f i ≡ true → min (g n) m ≤ g i) (λ _. omega arith) (λ i l p. omega (arith, r.1 i l p)),
      )
        where
          one : (m < g n) ⊎ (g n ≤ m) → One (suc n) (min (g n) m)
          one (inl l) = let low : m ≡ min (g n) m = omega arith in rw low at (wider m r.0)
          one (inr l) = (n, omega arith, e, omega arith)

module _ (vs : List Constraint) where
  abbrev n : ℕ
  n = length vs

  abbrev over : ℕ → ℕ → Bool
  over = listed_over vs

  lowest-is : Least (circles vs) (λ (i : ℕ). (constraint_at vs i).over) n (lowest_on_circle vs)
  unfolding lowest_on_circle
  lowest-is = least-is (circles vs) (λ (i : ℕ). (constraint_at vs i).over) n

  -- the net named is on a circle, and no lower net is
  pub lowest-some :
      (net : ℕ) → lowest_on_circle vs ≡ Some net
      → ((xs : List ℕ) × (path over net xs net ≡ true)) × ((a : ℕ) (xs : List ℕ) → path over a xs a ≡ true → net ≤ a)
  lowest-some net e =
      let ((i, l, c, q), low) = rw e at lowest-is in
      let (xs, p) = circle_chain vs i l c in
      ((xs, rw q at p), λ a ys h. let (j, m, r, d) = chain_circle vs a ys h in omega (arith, low j m d, r))

  module _ (none : lowest_on_circle vs ≡ None) where
    free : (i : ℕ) → i < n → circles vs i ≡ false
    free = rw none at lowest-is

    -- no net is on a circle
    pub lowest-none : (a : ℕ) (xs : List ℕ) → path over a xs a ≡ true → ⊥
    lowest-none a xs h =
        let (i, l, r, c) = chain_circle vs a xs h in
        true≢false (sym c ∙ free i l)

    -- no chain of two nets or more is longer
    pub chain-most : (a : ℕ) (xs : List ℕ) (b : ℕ) → path over a xs b ≡ true → length xs + 2 ≤ longest_chain vs
    unfolding longest_chain
    chain-most a xs b h =
        let (i, l, r, s) = chain_walk vs a xs b h in
        let few = short (follows vs) n free (length xs) i l s in
        let most = longest-most (follows vs) n n (length xs) i (omega arith) l s in
        rw (ne_eqb n 0 (λ z. omega arith)) (omega arith)

    -- some chain is as long
    pub chain-reached :
        0 < longest_chain vs → (a : ℕ) × (xs : List ℕ) × (b : ℕ) × (path over a xs b ≡ true) × (length xs + 2 ≡ longest_chain vs)
    unfolding longest_chain
    chain-reached h = go (eqb n 0) refl h
      where
        go :
            (t : Bool) → eqb n 0 ≡ t → 0 < cond t 0 (longest (follows vs) n n + 2)
            → (a : ℕ) × (xs : List ℕ) × (b : ℕ) × (path over a xs b ≡ true) × (length xs + 2 ≡ cond t 0 (longest (follows vs) n n + 2))
        go true e h = absurd (omega arith)
        go false e h =
            let (i, l, s) = longest-reached (follows vs) n (omega (arith, eqb-false n 0 e)) n in
            let (xs, b, r, p) = walk_chain vs (longest (follows vs) n n) i l s in
            ((constraint_at vs i).over, xs, b, p, omega arith)

    -- 0 exactly where nothing lies over anything
    pub chain-none : (longest_chain vs ≡ 0) ↔ ((a b : ℕ) → over a b ≡ false)
    chain-none = (
      λ z a b. false_from_ne_true (over a b) (λ e. absurd (omega (arith, z, chain-most a [] b e))),
      λ h. go (cases_lt 0 (longest_chain vs)) h,
    )
      where
        nothing : (a : ℕ) (xs : List ℕ) (b : ℕ) → ((a b : ℕ) → over a b ≡ false) → path over a xs b ≡ true → ⊥
        nothing a [] b h p = true≢false (sym p ∙ h a b)
        nothing a (x ∷ xs) b h p = true≢false (sym (and_parts (over a x) (path over x xs b) p).0 ∙ h a x)

        go : (0 < longest_chain vs) ⊎ (longest_chain vs ≤ 0) → ((a b : ℕ) → over a b ≡ false) → longest_chain vs ≡ 0
        go (inr l) h = omega arith
        go (inl l) h = let (a, xs, b, p, q) = chain-reached l in absurd (nothing a xs b h p)
