-- The least bound by order alone: no bound below it can be met, and where no distance binds it is the least density.
-- Assumes nothing.
use Rattle.std.proofs.Common.{◌≡◌, ℕ, ◌≤◌, ◌<◌, true, false, Bool, leb, refl, ◌∙◌, arith, le_refl, le-leb, leb-true, leb-false}
use Rattle.channel.specs.Sheet.{Sheet, Sound}
use Rattle.channel.specs.Word.{columns_of}
use Rattle.channel.specs.Best.{best}
use Rattle.channel.specs.Best.Found.{found}
use Rattle.reach.specs.Reach.{feasible}
use Rattle.reach.specs.Greedy.{walk_word}
use Rattle.reach.proofs.Least.{search-best}
use Rattle.least_column.specs.LeastColumn.{last_column, NoneBinds, order_walk}
use Rattle.least_column.proofs.Lower.{order_below}
use Rattle.least_column.proofs.Exact.{feasible_exactly}
use Rattle.least_column.proofs.Walk.{walk_by_order}

module _ (s : Sheet) (sound : Sound s) where
  -- count up from the least bound by order: what the first bound that can be met gives is the best assignment
  pub best_above :
      (d e : ℕ) → ((f : ℕ) → f < d → s.columns < last_column s f)
      → feasible s e ≡ true → ((f : ℕ) → d ≤ f → f < e → feasible s f ≡ false)
      → best s ≡ found e (columns_of (walk_word s e))
  best_above d e below met unmet = search-best s sound e met (λ f h. decide f h (leb d f) refl)
    where
      decide : (f : ℕ) → f < e → (t : Bool) → leb d f ≡ t → feasible s f ≡ false
      decide f h true q = unmet f (leb-true d f q) h
      decide f h false q = order_below s f f (le_refl f) (below f (leb-false d f q))

  -- where no distance binds it can be met, and the walk by order gives the columns
  pub order_best :
      NoneBinds s.top → NoneBinds s.bottom
      → (d : ℕ) → last_column s d ≤ s.columns → ((e : ℕ) → e < d → s.columns < last_column s e)
      → best s ≡ found d (columns_of (order_walk s d))
  order_best free_top free_bottom d h below =
      let met : feasible s d ≡ true = feasible_exactly s free_top free_bottom d ∙ le-leb _ _ h in
      rw (← walk_by_order s free_top free_bottom d met) (best_above d d below met (λ f m n. absurd (omega arith)))
