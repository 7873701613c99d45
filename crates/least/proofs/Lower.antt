-- Under a bound below the lower bound no least column is one of the channel's.
-- Assumes nothing.
use Rattle.std.proofs.Common.{ℕ, zero, suc, ◌<◌, ◌≡◌, refl, max, List, Bool, true, false, cond, arith, leb, leb-true, ne_eqb, bit_and}
use Rattle.std.proofs.lemmas.Bool.{lt-leb}
use Rattle.arrays.specs.Loads.{load_at}
use Rattle.bound.specs.LowerBound.{lowest, bottoms_lowest, tops_lowest, lower_bound}
use Rattle.bound.specs.Least.{Below}
use Rattle.least.specs.Table.{fits_by_order}
use Rattle.least.specs.Least.{set_at, next_in, letter_last, least_from, bottoms_least, tops_least, least_in}
use Rattle.least.proofs.Next.{next_none}

module _ (rules loads : List ℕ) (l bound : ℕ) where
  -- a letter whose load is above the bound, or behind a least column past the channel's last
  letter_over : (a load set m : ℕ) → (bound < a → l < m) → bound < max a load → l < letter_last l bound load set m
  letter_over a load set m past h = by-test (leb load bound) refl
    where
      by-test : (t : Bool) → leb load bound ≡ t → l < cond t (next_in l set m) (suc l)
      by-test true t =
          let behind : l < m = past (omega (arith, leb-true load bound t)) in
          omega (arith, next_none l set m (omega arith))
      by-test false t = omega arith

  from_over :
      (i j a b d above before diagonal : ℕ) → (bound < a → l < above) → (bound < b → l < before) → (bound < d → l < diagonal)
      → bound < lowest loads i j a b d → l < least_from rules loads l bound i j above before diagonal
  unfolding lowest least_from
  from_over zero zero a b d above before diagonal ha hb hd h = absurd (omega arith)
  from_over zero (suc j) a b d above before diagonal ha hb hd h =
      rw (ne_eqb (suc j) 0 (omega arith))
      (letter_over b (load_at loads 0 (suc j) 1) (set_at rules 1 (suc j)) before hb (rw (ne_eqb (suc j) 0 (omega arith)) at h))
  from_over (suc i) zero a b d above before diagonal ha hb hd h =
      rw (ne_eqb (suc i) 0 (omega arith))
      (letter_over a (load_at loads (suc i) 0 0) (set_at rules 0 (suc i)) above ha (rw (ne_eqb (suc i) 0 (omega arith)) at h))
  from_over (suc i) (suc j) a b d above before diagonal ha hb hd h =
      let all = rw (ne_eqb (suc i) 0 (omega arith), ne_eqb (suc j) 0 (omega arith)) at h in
      rw (ne_eqb (suc i) 0 (omega arith), ne_eqb (suc j) 0 (omega arith))
      (omega (
        arith,
        letter_over a (load_at loads (suc i) (suc j) 0) (set_at rules 0 (suc i)) above ha (omega (arith, all)),
        letter_over b (load_at loads (suc i) (suc j) 1) (set_at rules 1 (suc j)) before hb (omega (arith, all)),
        letter_over d (load_at loads (suc i) (suc j) 2) (bit_and (set_at rules 0 (suc i)) (set_at rules 1 (suc j))) diagonal hd
            (omega (arith, all)),
      ))

  bottoms_over : (j : ℕ) → bound < bottoms_lowest loads j → l < bottoms_least rules loads l bound j
  unfolding bottoms_least bottoms_lowest
  bottoms_over zero h = from_over 0 0 0 0 0 0 0 0 (λ k. absurd (omega arith)) (λ k. absurd (omega arith)) (λ k. absurd (omega arith)) h
  bottoms_over (suc j) h =
      from_over 0 (suc j) 0 (bottoms_lowest loads j) 0 0 (bottoms_least rules loads l bound j) 0 (λ k. absurd (omega arith)) (bottoms_over j)
      (λ k. absurd (omega arith)) h

  tops_over :
      (i : ℕ) (lower less : ℕ → ℕ) → ((j : ℕ) → bound < lower j → l < less j) → (j : ℕ)
      → bound < tops_lowest loads i lower j → l < tops_least rules loads l bound i less j
  unfolding tops_least tops_lowest
  tops_over i lower less past zero h =
      from_over i 0 (lower 0) 0 0 (less 0) 0 0 (past 0) (λ k. absurd (omega arith)) (λ k. absurd (omega arith)) h
  tops_over i lower less past (suc j) h =
      from_over i (suc j) (lower (suc j)) (tops_lowest loads i lower j) (lower j) (less (suc j)) (tops_least rules loads l bound i less j)
      (less j) (past (suc j)) (tops_over i lower less past j) (past j) h

  pub least_over : (i j : ℕ) → bound < lower_bound loads i j → l < least_in rules loads l bound i j
  unfolding least_in lower_bound
  least_over zero j h = bottoms_over j h
  least_over (suc i) j h = tops_over (suc i) (lower_bound loads i) (least_in rules loads l bound i) (least_over i) j h

-- so by order not all pins have a column under such a bound
pub below_lower : (rules loads : List ℕ) (l p q : ℕ) → Below (fits_by_order rules loads l p q) (lower_bound loads p q)
below_lower rules loads l p q e h = lt-leb (least_in rules loads l e p q) l (least_over rules loads l e p q h)
