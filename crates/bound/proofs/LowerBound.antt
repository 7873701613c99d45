-- Laws of the lower bound: how it comes from those before it, and the row of it that the code keeps.
-- Assumes nothing.
use Rattle.std.proofs.Common.{ℕ, zero, suc, ◌+◌, ◌-◌, ◌≤◌, ◌<◌, ◌≡◌, refl, ◌∙◌, ap, List, Bool, true, false, sub-one, arith, length, get_or, set, length-set, get_or-set_same, get_or-set_other, eqb, eqb-true}
use Rattle.std.proofs.lemmas.Bool.{eqb-false}
use Rattle.bound.specs.LowerBound.{lowest, bottoms_lowest, tops_lowest, lower_bound}

-- the lower bound from those before it; a pin that is not there leaves what stands in its place open
module _ (loads : List ℕ) where
  pub bound_step :
      (i j above before diagonal : ℕ) → (0 < i → above ≡ lower_bound loads (i - 1) j) → (0 < j → before ≡ lower_bound loads i (j - 1))
      → (0 < i → 0 < j → diagonal ≡ lower_bound loads (i - 1) (j - 1)) → lowest loads i j above before diagonal ≡ lower_bound loads i j
  unfolding lower_bound bottoms_lowest tops_lowest lowest
  bound_step zero zero above before diagonal a b d = refl
  bound_step zero (suc j) above before diagonal a b d = rw (b (omega arith), sub-one (suc j)) refl
  bound_step (suc i) zero above before diagonal a b d = rw (a (omega arith), sub-one (suc i)) refl
  bound_step (suc i) (suc j) above before diagonal a b d =
      rw (a (omega arith), b (omega arith), d (omega arith) (omega arith), sub-one (suc i), sub-one (suc j)) refl

-- a row of one top pin less that becomes the row of i: it has become it up to j, and is as it was from j on; `before` and `diagonal`
-- are the numbers left of j, of the new row and of the old
pub record Row (loads : List ℕ) (i j : ℕ) (old new : List ℕ) (before diagonal : ℕ) : Type 0 where
  pub kept : length new ≡ length old
  pub passed : (k : ℕ) → k < j → get_or new k 0 ≡ lower_bound loads i k
  pub ahead : (k : ℕ) → j ≤ k → get_or new k 0 ≡ get_or old k 0
  pub left : 0 < j → before ≡ lower_bound loads i (j - 1)
  pub corner : 0 < j → diagonal ≡ get_or old (j - 1) 0

module _ (loads : List ℕ) (i : ℕ) (old : List ℕ) where
  -- one number more, where the old row is that of one top pin less
  pub row_more :
      (j before diagonal : ℕ) (new : List ℕ) → (0 < i → (k : ℕ) → k < length old → get_or old k 0 ≡ lower_bound loads (i - 1) k)
      → j < length old → Row loads i j old new before diagonal
      → Row loads i (j + 1) old (set new j (lowest loads i j (get_or new j 0) before diagonal))
      (lowest loads i j (get_or new j 0) before diagonal)
      (get_or new j 0)
  row_more j before diagonal new less room r =
      record {
        kept = simp length-set r.kept;
        passed = λ k l. by-test k l (eqb k j) refl;
        ahead = λ k l. get_or-set_other new j k here 0 (omega arith) ∙ r.ahead k (omega arith);
        left = λ l. found ∙ ap (lower_bound loads i) (omega arith);
        corner = λ l. r.ahead j (omega arith) ∙ ap (λ (k : ℕ). get_or old k 0) (omega arith);
      }
    where
      here : ℕ
      here = lowest loads i j (get_or new j 0) before diagonal

      found : here ≡ lower_bound loads i j
      found =
          bound_step loads i j (get_or new j 0) before diagonal (λ p. r.ahead j (omega arith) ∙ less p j room) r.left
          (λ p l. r.corner l ∙ less p (j - 1) (omega arith))

      by-test : (k : ℕ) → k < j + 1 → (t : Bool) → eqb k j ≡ t → get_or (set new j here) k 0 ≡ lower_bound loads i k
      by-test k l true e = let same = eqb-true k j e in rw same (get_or-set_same new j here 0 (omega (arith, r.kept)) ∙ found)
      by-test k l false e = get_or-set_other new j k here 0 (eqb-false k j e) ∙ r.passed k (omega (arith, eqb-false k j e))
