-- No wiring that gives each net one track has fewer tracks than the density, or than a chain has nets (document 002, section 2). The nets
-- of a column are on different tracks. Along a chain each net is on a lower track than the one before it.
-- Assumes nothing.
use Rattle.std.proofs.Common.{◌≡◌, ℕ, zero, suc, ◌+◌, ◌≤◌, List, [], ◌∷◌, ◌++◌, length, Bool, true, false, cond, eqb, arith, refl, length-append, eq-eqb, ⊎_elim}
use Rattle.std.specs.List.{IsDistinct, list_any}
use Rattle.std.specs.Cmp.{nat_eq_equiv}
use Rattle.std.proofs.lemmas.Bool.{and_parts, or_cases, or_left, or_right, false_from_ne_true}
use Rattle.std.proofs.lemmas.Bool.Decides.{nat_tests}
use Rattle.std.proofs.lemmas.List.Folds.{list_any-append}
use Rattle.std.proofs.lemmas.Map.Keys.{IsDistinct-push}
use Rattle.std.proofs.lemmas.Map.Steps.{length-le_from_distinct_below}
use Rattle.channel.specs.Density.{any, distinct, weight_of, maximum_to}
use Rattle.relation.specs.Relation.{path}
use Rattle.wirings.specs.Wirings.{Wired}

module _ (l : ℕ) (crossing over : ℕ → ℕ → Bool) (tracks : ℕ) (track : ℕ → ℕ) (w : Wired l crossing over tracks track) where
  -- the weights of a list's nets, each once, that cross column c
  abbrev weight_in : List ℕ → ℕ → ℕ
  weight_in ns c = weight_of (λ (n : ℕ). crossing n c) (distinct ns)

  module _ (c : ℕ) (first : 1 ≤ c) (last : c ≤ l) where
    -- a net of a list crosses the column on track t
    abbrev On : List ℕ → ℕ → Type 0
    On ns t = (n : ℕ) × (any (eqb n) ns ≡ true) × (crossing n c ≡ true) × (track n ≡ t)

    -- a net that crosses it too and is not in the list is on another track
    other : (n : ℕ) (ns : List ℕ) → any (eqb n) ns ≡ false → crossing n c ≡ true → On ns (track n) → ⊥
    other n ns e d (m, i, j, k) = let same = w.apart m n c first last j d k in cc

    -- so many tracks, no two the same, on each of which one of the list crosses
    abbrev Used : List ℕ → ℕ → Type 0
    Used ns k = (ts : List ℕ) × (length ts ≡ k) × IsDistinct eqb ts × ((t : ℕ) → list_any (eqb t) ts ≡ true → On ns t)

    weight-used : (ns : List ℕ) → Used ns (weight_in ns c)
    unfolding IsDistinct
    weight-used [] = ([], refl, tt, λ t h. cc)
    weight-used (n ∷ ns) = go (any (eqb n) ns) refl (crossing n c) refl (weight-used ns)
      where
        more : (t : ℕ) → On ns t → On (n ∷ ns) t
        more t (m, i, j, k) = (m, or_right _ _ i, j, k)

        go : (a : Bool) → any (eqb n) ns ≡ a → (b : Bool) → crossing n c ≡ b → Used ns (weight_in ns c)
            → Used (n ∷ ns) (weight_of (λ (m : ℕ). crossing m c) (cond a (distinct ns) (n ∷ distinct ns)))
        go true e b d (ts, p, q, r) = (ts, p, q, λ t h. more t (r t h))
        go false e false d (ts, p, q, r) = (ts, rw d (omega arith), q, λ t h. more t (r t h))
        go false e true d (ts, p, q, r) = (
          ts ++ track n ∷ [],
          rw d (omega (arith, length-append ts (track n ∷ []))),
          IsDistinct-push nat_eq_equiv ts (track n) q (false_from_ne_true _ (λ h. other n ns e d (r (track n) h))),
          λ t h.
              ⊎_elim (λ p. more t (r t p)) (λ p. (n, or_left _ _ (eq-eqb n n refl), d, grind (arith, nat_tests)))
              (or_cases (list_any (eqb t) ts) _ (rw list_any-append at h)),
        )

    weight-tracks : (ns : List ℕ) → weight_in ns c ≤ tracks
    weight-tracks ns =
        let (ts, p, q, r) = weight-used ns in
        let few = length-le_from_distinct_below ts tracks q (λ t h. let (n, _, j, k) = r t h in omega (arith, w.within n c first last j)) in
        omega arith

  pub density-tracks : (ns : List ℕ) → maximum_to l (λ (c : ℕ). weight_of (λ (n : ℕ). crossing n c) (distinct ns)) ≤ tracks
  density-tracks ns = up_to l (omega arith)
    where
      up_to : (k : ℕ) → k ≤ l → maximum_to k (weight_in ns) ≤ tracks
      up_to zero h = omega arith
      up_to (suc k) h = omega (arith, weight-tracks (suc k) (omega arith) h ns, up_to k (omega arith))

  -- from the track of its first net down, as many tracks as the chain has nets
  from_first : (a : ℕ) (xs : List ℕ) (b : ℕ) → path over a xs b ≡ true → track a + length xs + 2 ≤ tracks
  from_first a [] b h = omega (arith, w.above a b h)
  from_first a (x ∷ xs) b h =
      let (p, q) = and_parts (over a x) (path over x xs b) h in
      omega (arith, w.above a x p, from_first x xs b q)

  pub chain-tracks : (a : ℕ) (xs : List ℕ) (b : ℕ) → path over a xs b ≡ true → length xs + 2 ≤ tracks
  chain-tracks a xs b h = omega (arith, from_first a xs b h)
