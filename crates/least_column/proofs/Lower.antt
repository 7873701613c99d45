-- Wherever the pins can be placed, the least column is no further right than the last of them: it is a lower bound.
-- Assumes nothing.
use Rattle.std.proofs.Common.{◌≡◌, ℕ, suc, ◌+◌, max, ◌≤◌, ◌<◌, true, false, Bool, arith, length}
use Rattle.std.proofs.lemmas.Bool.{and_parts, false_from_ne_true}
use Rattle.channel.specs.Sheet.{Sheet}
use Rattle.channel.specs.Word.{Letter, has_top, has_bottom}
use Rattle.channel.specs.Word.Letter.{empty, top, bottom, both}
use Rattle.reach.specs.Reach.{reach, feasible}
use Rattle.reach.proofs.Rightmost.{more, last_in, Step, reach_induction}
use Rattle.reach.proofs.Bounds.{feasible_some}
use Rattle.least_column.specs.LeastColumn.{least_column, last_column}
use Rattle.least_column.proofs.Next.{Allowed, least-none, least_low, least_mono}

module _ (s : Sheet) (d : ℕ) where
  -- a letter that `reach` lets stand in column c + 1 is one that sets and loads do
  pub step_allowed : (c : ℕ) (a : Letter) (k l t b : ℕ) → Step s d c a k l t b → Allowed s d a k l (suc c)
  step_allowed c a k l t b r =
      record {
        top = λ q. (and_parts _ _ (r.top.fits q)).0;
        bottom = λ q. (and_parts _ _ (r.bottom.fits q)).0;
        within = r.within;
      }

  -- so the least column stays left of the last pins, where one letter more stands in the channel
  low_more :
      (c : ℕ) (a : Letter) (k l t b : ℕ) → Step s d c a k l t b
      → last_in (has_top a) c t ≤ s.columns → last_in (has_bottom a) c b ≤ s.columns → least_column s d k l ≤ max t b
      → least_column s d (more (has_top a) k) (more (has_bottom a) l) ≤ max (last_in (has_top a) c t) (last_in (has_bottom a) c b)
  low_more c empty k l t b r hu hv h = h
  low_more c top k l t b r hu hv h =
      omega (arith, r.bottom.below, least_low s d top k l (suc c) (step_allowed c top k l t b r) (omega (arith, r.top.below, r.bottom.below)) hu)
  low_more c bottom k l t b r hu hv h =
      omega (arith, r.top.below, least_low s d bottom k l (suc c) (step_allowed c bottom k l t b r) (omega (arith, r.top.below, r.bottom.below)) hv)
  low_more c both k l t b r hu hv h =
      omega (arith, least_low s d both k l (suc c) (step_allowed c both k l t b r) (omega (arith, r.top.below, r.bottom.below)) hu)

  -- wherever the pins can be placed in the channel
  pub lower_bound : (i j u v : ℕ) → u ≤ s.columns → v ≤ s.columns → reach s d i j u v ≡ true → least_column s d i j ≤ max u v
  lower_bound i j u v hu hv r =
      reach_induction s d (λ i j u v. u ≤ s.columns → v ≤ s.columns → least_column s d i j ≤ max u v)
      (λ h k. omega (arith, least-none s d))
      (λ c a k l t b o p hu hv. low_more c a k l t b o hu hv (p (within (has_top a) c t o.top.below hu) (within (has_bottom a) c b o.bottom.below hv)))
      (u + v) i j u v (omega arith) (omega arith) r hu hv
    where
      within : (h : Bool) (c t : ℕ) → t ≤ c → last_in h c t ≤ s.columns → t ≤ s.columns
      within true c t k n = omega arith
      within false c t k n = n

  -- where all pins can be placed, the least column of all is one of the channel's
  pub feasible_least : feasible s d ≡ true → last_column s d ≤ s.columns
  feasible_least f =
      let (u, v, hu, hv, r) = feasible_some s d f in
      omega (arith, lower_bound (length s.top) (length s.bottom) u v hu hv r)

-- so a bound under which it is not cannot be met, nor can any below it
pub order_below : (s : Sheet) (d e : ℕ) → e ≤ d → s.columns < last_column s d → feasible s e ≡ false
order_below s d e h m =
    false_from_ne_true _ (λ q. omega (arith, feasible_least s e q, least_mono s e d h (length s.top) (length s.bottom)))
