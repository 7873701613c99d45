-- Chains of nets are walks over constraints: a chain of nets goes along constraints of which each follows the one before it, and such
-- constraints make a chain of the nets with which they begin.
-- Assumes nothing.
use Rattle.std.proofs.Common.{◌≡◌, ℕ, zero, suc, ◌≤◌, ◌<◌, Bool, true, ◌&&◌, ◌⊎◌, inl, inr, eqb, eqb-true, eq-eqb, List, [], ◌∷◌, ◌++◌, length, refl, sym, ◌∙◌, ap, subst, arith}
use Rattle.std.proofs.lemmas.Bool.{and_from, and_parts, or_cases, or_left, or_right}
use Rattle.relation.specs.Relation.{path, reaches, starts}
use Rattle.relation.proofs.Reach.{cases-reaches, reaches-step, reaches-through}
use Rattle.relation.proofs.Longest.{starts-zero, starts-step, starts-parts}
use Rattle.constraints.specs.declared.Constraint.{Constraint}
use Rattle.constraints.specs.Listed.{listed_over}
use Rattle.chains.specs.Chains.{constraint_at, follows}

-- two chains, the second from where the first ends
path_append :
    (over : ℕ → ℕ → Bool) (a b c : ℕ) (xs ys : List ℕ) → path over a xs b ≡ true → path over b ys c ≡ true
    → path over a (xs ++ b ∷ ys) c ≡ true
path_append over a b c [] ys h k = and_from _ _ h k
path_append over a b c (x ∷ xs) ys h k =
    let (p, q) = and_parts (over a x) (path over x xs b) h in
    and_from _ _ p (path_append over x b c xs ys q k)

-- the constraint at a place is one of the list, and each of the list has its place
pub listed-at : (vs : List Constraint) (i : ℕ) → i < length vs → listed_over vs (constraint_at vs i).over (constraint_at vs i).under ≡ true
listed-at [] i h = absurd (omega arith)
listed-at (v ∷ vs) zero h = or_left _ _ (and_from _ _ (eq-eqb v.over v.over refl) (eq-eqb v.under v.under refl))
listed-at (v ∷ vs) (suc i) h = or_right _ _ (listed-at vs i (omega arith))

-- the constraint that has net a over net b, with its place
abbrev At : List Constraint → ℕ → ℕ → Type 0
At vs a b = (i : ℕ) × (i < length vs) × ((constraint_at vs i).over ≡ a) × ((constraint_at vs i).under ≡ b)

place-of : (vs : List Constraint) (a b : ℕ) → listed_over vs a b ≡ true → At vs a b
place-of [] a b h = cc
place-of (v ∷ vs) a b h = go (or_cases (eqb v.over a && eqb v.under b) (listed_over vs a b) h) (place-of vs a b)
  where
    go : ((eqb v.over a && eqb v.under b) ≡ true) ⊎ (listed_over vs a b ≡ true) → (listed_over vs a b ≡ true → At vs a b) → At (v ∷ vs) a b
    go (inl p) rest =
        let (q, r) = and_parts (eqb v.over a) (eqb v.under b) p in
        (0, omega arith, eqb-true v.over a q, eqb-true v.under b r)
    go (inr p) rest = let (i, l, q, r) = rest p in (suc i, omega arith, q, r)

module _ (vs : List Constraint) where
  abbrev n : ℕ
  n = length vs

  abbrev over : ℕ → ℕ → Bool
  over = listed_over vs

  abbrev from : ℕ → ℕ
  from i = (constraint_at vs i).over

  follow : (i j x : ℕ) → (constraint_at vs i).under ≡ x → from j ≡ x → follows vs i j ≡ true
  follow i j x p q = eq-eqb _ _ (p ∙ sym q)

  -- one that is followed has its net over the net of the next
  goes : (i j : ℕ) → i < n → follows vs i j ≡ true → over (from i) (from j) ≡ true
  goes i j l h = subst (λ (x : ℕ). over (from i) x ≡ true) (eqb-true _ _ h) (listed-at vs i l)

  -- a chain from net a starts a walk of as many steps as nets are between its ends
  pub chain_walk : (a : ℕ) (xs : List ℕ) (b : ℕ) → path over a xs b ≡ true
      → (i : ℕ) × (i < n) × (from i ≡ a) × (starts (follows vs) n (length xs) i ≡ true)
  chain_walk a [] b h = let (i, l, p, q) = place-of vs a b h in (i, l, p, starts-zero (follows vs) n i)
  chain_walk a (x ∷ xs) b h =
      let (g, k) = and_parts (over a x) (path over x xs b) h in
      let (i, l, p, q) = place-of vs a x g in
      let (j, m, r, s) = chain_walk x xs b k in
      (i, l, p, starts-step (follows vs) n (length xs) i j m (follow i j x q r) s)

  -- and back
  pub walk_chain : (k i : ℕ) → i < n → starts (follows vs) n k i ≡ true
      → (xs : List ℕ) × (b : ℕ) × (length xs ≡ k) × (path over (from i) xs b ≡ true)
  walk_chain zero i l h = ([], (constraint_at vs i).under, refl, listed-at vs i l)
  walk_chain (suc k) i l h = go (starts-parts (follows vs) n k i h) (walk_chain k)
    where
      go :
          (j : ℕ) × (j < n) × (follows vs i j ≡ true) × (starts (follows vs) n k j ≡ true)
          → ((j : ℕ) → j < n → starts (follows vs) n k j ≡ true
          → (xs : List ℕ) × (b : ℕ) × (length xs ≡ k) × (path over (from j) xs b ≡ true))
          → (xs : List ℕ) × (b : ℕ) × (length xs ≡ suc k) × (path over (from i) xs b ≡ true)
      go (j, m, p, q) rest =
          let (xs, b, r, s) = rest j m q in
          (from j ∷ xs, b, ap suc r, and_from _ _ (goes i j l p) s)

  -- what a constraint reaches, its net reaches by a chain
  reaches_chain : (k i j : ℕ) → k ≤ n → i < n → reaches (follows vs) k i j ≡ true → (xs : List ℕ) × (path over (from i) xs (from j) ≡ true)
  unfolding reaches
  reaches_chain zero i j h l e = ([], goes i j l e)
  reaches_chain (suc k) i j h l e =
      go (cases-reaches (follows vs) k i j e) (reaches_chain k i j (omega arith) l) (reaches_chain k i k (omega arith) l)
      (reaches_chain k k j (omega arith) (omega arith))
    where
      Goes : ℕ → ℕ → Type 0
      Goes x y = (xs : List ℕ) × (path over (from x) xs (from y) ≡ true)

      go :
          (reaches (follows vs) k i j ≡ true) ⊎ ((reaches (follows vs) k i k ≡ true) × (reaches (follows vs) k k j ≡ true))
          → (reaches (follows vs) k i j ≡ true → Goes i j) → (reaches (follows vs) k i k ≡ true → Goes i k)
          → (reaches (follows vs) k k j ≡ true → Goes k j) → Goes i j
      go (inl p) past to away = past p
      go (inr p) past to away =
          let (xs, q) = to p.0 in
          let (ys, r) = away p.1 in
          (xs ++ from k ∷ ys, path_append over (from i) (from k) (from j) xs ys q r)

  -- and back: a chain from net a to net b reaches each constraint that begins with b
  chain_reaches : (a : ℕ) (xs : List ℕ) (b : ℕ) → path over a xs b ≡ true
      → (i : ℕ) × (i < n) × (from i ≡ a) × ((j : ℕ) → from j ≡ b → reaches (follows vs) n i j ≡ true)
  chain_reaches a [] b h =
      let (i, l, p, q) = place-of vs a b h in
      (i, l, p, λ j e. reaches-step (follows vs) n i j (follow i j b q e))
  chain_reaches a (x ∷ xs) b h =
      let (g, k) = and_parts (over a x) (path over x xs b) h in
      let (i, l, p, q) = place-of vs a x g in
      let (j, m, r, s) = chain_reaches x xs b k in
      (i, l, p, λ d e. reaches-through (follows vs) n i j d m (reaches-step (follows vs) n i j (follow i j x q r)) (s d e))

  -- a net that begins a constraint on a circle is on a circle of nets, and each of these begins one
  pub circle_chain : (i : ℕ) → i < n → reaches (follows vs) n i i ≡ true → (xs : List ℕ) × (path over (from i) xs (from i) ≡ true)
  circle_chain i l h = reaches_chain n i i (omega arith) l h

  pub chain_circle : (a : ℕ) (xs : List ℕ) → path over a xs a ≡ true → (i : ℕ) × (i < n) × (from i ≡ a) × (reaches (follows vs) n i i ≡ true)
  chain_circle a xs h = let (i, l, p, q) = chain_reaches a xs a h in (i, l, p, q i p)
