-- The laws of `reach`: an equation for each way in which the column furthest right can be occupied.
-- Assumes nothing.
use Rattle.std.proofs.Common.{◌≡◌, ℕ, zero, suc, ◌<◌, false, ◌&&◌, eqb, refl, arith, le-ltb, lt-ltb, ne_eqb}
use Rattle.std.proofs.Math.Bool.{and-false}
use Rattle.channel.specs.Sheet.{Sheet}
use Rattle.reach.specs.Reach.{by_top, by_bottom, by_both, bottoms_only, with_tops, reach}

module _ (s : Sheet) (d : ℕ) where
  -- with no pins at all, both last columns are 0
  pub reach-none : (u v : ℕ) → reach s d 0 0 u v ≡ (eqb u 0 && eqb v 0)
  unfolding reach bottoms_only
  reach-none u v = refl

  -- the column furthest right holds a top pin only
  pub reach-top : (i j u v : ℕ) → v < u → reach s d (suc i) j u v ≡ by_top s d (suc i) j (reach s d i j) u v
  unfolding reach with_tops
  reach-top i zero u v h = rw (lt-ltb v u h)
  reach-top i (suc j) u v h = rw (lt-ltb v u h)

  -- it holds a bottom pin only
  pub reach-bottom : (i j u v : ℕ) → u < v → reach s d i (suc j) u v ≡ by_bottom s d i (suc j) (reach s d i j) u v
  unfolding reach bottoms_only with_tops
  reach-bottom zero j u v h = rw (lt-ltb u v h)
  reach-bottom (suc i) j u v h = rw (le-ltb v u (omega arith), lt-ltb u v h)

  -- it holds both
  pub reach-both : (i j u : ℕ) → reach s d (suc i) (suc j) u u ≡ by_both s d (suc i) (suc j) (reach s d i j) u u
  unfolding reach with_tops
  reach-both i j u = rw (le-ltb u u (omega arith))

  -- it cannot hold a top pin where none is placed
  pub reach_no_top : (j u v : ℕ) → v < u → reach s d 0 j u v ≡ false
  unfolding reach bottoms_only
  reach_no_top zero u v h = rw (ne_eqb u 0 (λ e. omega arith))
  reach_no_top (suc j) u v h = rw (le-ltb u v (omega arith))

  -- nor a bottom pin where none is
  pub reach_no_bottom : (i u v : ℕ) → u < v → reach s d i 0 u v ≡ false
  unfolding reach bottoms_only with_tops
  reach_no_bottom zero u v h = rw (ne_eqb v 0 (λ e. omega arith)) (and-false (eqb u 0))
  reach_no_bottom (suc i) u v h = rw (le-ltb v u (omega arith))

  -- nor both where only one side has pins
  pub reach_only_bottoms : (j u : ℕ) → reach s d 0 (suc j) u u ≡ false
  unfolding reach bottoms_only
  reach_only_bottoms j u = rw (le-ltb u u (omega arith))

  pub reach_only_tops : (i u : ℕ) → reach s d (suc i) 0 u u ≡ false
  unfolding reach with_tops
  reach_only_tops i u = rw (le-ltb u u (omega arith))
