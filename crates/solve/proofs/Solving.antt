-- Why the passes come to the best assignment of a sheet, from the words of its rules and its loads.
-- Assumes nothing.
use Rattle.std.proofs.Common.{ℕ, ◌+◌, ◌-◌, ◌*◌, ◌≤◌, ◌≡◌, refl, sym, ◌∙◌, ap, List, ◌++◌, true, arith, length, drop, drop-drop, leb, leb-true, leb-false, le-leb, le_refl, Some}
use Rattle.std.proofs.Math.Nat.{mul_comm, mul-le-mul, mul-le-mul_left}
use Rattle.channel.specs.Sheet.{Sheet}
use Rattle.channel.specs.Density.{most_density}
use Rattle.channel.specs.Best.{best}
use Rattle.channel.specs.Best.Found.{found}
use Rattle.channel.specs.Word.{Letter, columns_of}
use Rattle.bound.specs.Least.{Below, Least}
use Rattle.reach.specs.Reach.{feasible}
use Rattle.reach.specs.Greedy.{walk_word}
use Rattle.reach.proofs.Bounds.{feasible_some, reach-held}
use Rattle.reach.proofs.Least.{search-best}
use Rattle.reach.proofs.Whole.{walk-pins}
use Rattle.letters.specs.Walking.{whole_walk}
use Rattle.binding.specs.Binding.{none_binds}
use Rattle.least_column.specs.LeastColumn.{last_column, order_walk, NoneBinds}
use Rattle.least_column.proofs.Lower.{feasible_least, order_below}
use Rattle.least_column.proofs.Exact.{feasible_exactly}
use Rattle.least_column.proofs.Walk.{walk_by_order}
use Rattle.least_column.proofs.Order.{order_best}
use Rattle.least.specs.Table.{cells_of, fits_by_order, Bounded}
use Rattle.order_walk.specs.OrderWalk.{order_choice_in}
use Rattle.pass.specs.Pass.{AsksPass, feasible_in, Placed, table_end}
use Rattle.agreement.specs.Ready.{Ready}
use Rattle.agreement.proofs.Feasible.{feasible-in}
use Rattle.agreement.proofs.Walked.{walk_columns_lem}
use Rattle.agreement.proofs.Binding.{none_binds_lem}
use Rattle.agreement.proofs.Ordered.{least-same, ordered_columns}
use Rattle.solve.specs.Buffers.{with_columns}
use Rattle.solve.specs.Solved.{plan_of, outcome_of}
use Rattle.solve.specs.Placed.{Placeable, Given, AsksPlace, BestPlaced, table_cells}
use Rattle.solve.proofs.Measures.{plan_sizes, table_within, plan_lies}

-- found with the columns of a word
found_written :
    (d : ℕ) (cs columns columns' : List ℕ) (n : ℕ) → length cs ≡ n → columns' ≡ cs ++ drop n columns
    → (Some d ≡ outcome_of (found d cs)) × (columns' ≡ with_columns (found d cs) columns)
found_written d cs columns columns' n size e = (refl, e ∙ ap (λ (k : ℕ). cs ++ drop k columns) (sym size))

-- of a sheet whose pins can all be placed
module _ (rules loads : List ℕ) (l p q : ℕ) (t : Sheet) (is : Placeable rules loads l p q t) where
  -- no side has more pins than columns
  pub crowds_none : (p ≤ l) × (q ≤ l)
  crowds_none =
      let (u, v, hu, hv, r) = feasible_some t most_density is.feasible_most in
      let (a, b) = reach-held t most_density (length t.top) (length t.bottom) u v r in
      (omega (arith, a.room, is.tops, is.columns), omega (arith, b.room, is.bottoms, is.columns))

  -- by order all pins have a column of the channel exactly when the model says so
  pub fits-same : (d : ℕ) → fits_by_order rules loads l p q d ≡ leb (last_column t d) t.columns
  fits-same d = rw (is.columns, is.tops, is.bottoms, least-same t rules loads is.ready d (length t.top) (length t.bottom) (omega arith) (omega arith)) refl

  pub fits_most : fits_by_order rules loads l p q most_density ≡ true
  fits_most = fits-same most_density ∙ le-leb (last_column t most_density) t.columns (feasible_least t most_density is.feasible_most)

  -- so no bound below the least by order can be met
  unmet : (r : ℕ) → Least (fits_by_order rules loads l p q) r → Below (feasible t) r
  unmet r least e h =
      order_below t e e (le_refl e)
      (leb-false (last_column t e) t.columns (sym (fits-same e) ∙ least.smaller e h))

  pub wide : (1 ≤ l) × (l ≤ 64)
  wide = (omega (arith, is.ready.sound.columns.0, is.columns), omega (arith, is.ready.sound.columns.1, is.columns))

  ready : Ready t rules loads (plan_of l p q)
  ready =
      record {
        sound = is.ready.sound;
        p = is.tops;
        q = is.bottoms;
        l = is.columns;
        tops = crowds_none.0;
        bottoms = crowds_none.1;
        rows = refl;
        across = refl;
        sizes = plan_sizes l p q wide.0 wide.1 crowds_none.0 crowds_none.1;
        top = is.ready.top;
        bottom = is.ready.bottom;
        cuts = is.ready.cuts;
      }

  pub unmet_in : (r : ℕ) → Least (fits_by_order rules loads l p q) r → Below (feasible_in rules loads (plan_of l p q)) r
  unmet_in r least e h = feasible-in t rules loads (plan_of l p q) ready e ∙ unmet r least e h

  pub feasible_most_in : feasible_in rules loads (plan_of l p q) most_density ≡ true
  feasible_most_in = feasible-in t rules loads (plan_of l p q) ready most_density ∙ is.feasible_most

  -- what the walk by order writes where no distance binds
  pub by_order_best :
      (d : ℕ) → Least (fits_by_order rules loads l p q) d → none_binds rules 0 p ≡ true → none_binds rules 1 q ≡ true
      → (columns columns' : List ℕ) → p + q ≤ length columns → columns' ≡ whole_walk (order_choice_in rules loads l d) l p q columns
      → (Some d ≡ outcome_of (best t)) × (columns' ≡ with_columns (best t) columns)
  by_order_best d least tops bottoms columns columns' room e =
      let free_top : NoneBinds t.top =
      none_binds_lem is.ready.top is.ready.sound.top is.ready.sound.columns.1 is.ready.top_numbered (rw is.tops at tops) in
      let free_bottom : NoneBinds t.bottom =
      none_binds_lem is.ready.bottom is.ready.sound.bottom is.ready.sound.columns.1 is.ready.bottom_numbered (rw is.bottoms at bottoms) in
      let inside : last_column t d ≤ t.columns = leb-true (last_column t d) t.columns (sym (fits-same d) ∙ least.holds) in
      let met : feasible t d ≡ true = feasible_exactly t free_top free_bottom d ∙ le-leb (last_column t d) t.columns inside in
      let found_best : best t ≡ found d (columns_of (order_walk t d)) =
      order_best t is.ready.sound free_top free_bottom d inside
      (λ f h. leb-false (last_column t f) t.columns (sym (fits-same f) ∙ least.smaller f h)) in
      let same : walk_word t d ≡ order_walk t d = walk_by_order t free_top free_bottom d met in
      let size : length (columns_of (order_walk t d)) ≡ p + q =
      ap (λ (w : List Letter). length (columns_of w)) (sym same) ∙ (walk-pins t d met).3 ∙ omega (arith, is.tops, is.bottoms) in
      rw found_best
      (found_written d (columns_of (order_walk t d)) columns columns' (p + q) size
      (e ∙ ordered_columns t rules loads is.ready d free_top free_bottom met l p q is.columns is.tops is.bottoms columns room))

  -- and what the passes over the table do
  pub by_table_best :
      (old new columns columns' : List ℕ) (d : ℕ) → p + q ≤ length columns
      → Placed rules loads (plan_of l p q) old new columns columns' d
      → (Some d ≡ outcome_of (best t)) × (columns' ≡ with_columns (best t) columns)
  by_table_best old new columns columns' d room placed =
      let least : Least (feasible_in rules loads (plan_of l p q)) d = placed.bound.least in
      let met : feasible t d ≡ true = sym (feasible-in t rules loads (plan_of l p q) ready d) ∙ least.holds in
      let found_best : best t ≡ found d (columns_of (walk_word t d)) =
      search-best t is.ready.sound d met (λ f h. sym (feasible-in t rules loads (plan_of l p q) ready f) ∙ least.smaller f h) in
      let size : length (columns_of (walk_word t d)) ≡ p + q = omega (arith, (walk-pins t d met).3, is.tops, is.bottoms) in
      rw found_best
      (found_written d (columns_of (walk_word t d)) columns columns' (p + q) size
      (placed.written ∙ walk_columns_lem t rules loads (plan_of l p q) ready d met new old _ placed.bound.table columns room))

-- all of it, of any such sheet: by order, where the walk leaves the cells as the pass by order left them
module _ (rules loads : List ℕ) (l p q : ℕ) (given : Given rules loads l p q) (columns work : List ℕ) (asked : AsksPlace l p q (length columns) (length work)) where
  abbrev t : Sheet
  t = given.sheet

  -- the least columns lie in the cells
  cells_few : cells_of p q ≤ table_cells l p q
  cells_few =
      let wider : 1 ≤ l + 1 = omega arith in
      let one : 1 * 1 ≤ (l + 1) * (l + 1) = mul-le-mul wider wider in
      let few : (p + 1) * (q + 1) * 1 ≤ table_cells l p q = mul-le-mul_left ((p + 1) * (q + 1)) one in
      omega (arith, mul_comm (q + 1) (p + 1))

  -- what stands behind the cells that a pass works in, stands behind all
  behind_all :
      (end : ℕ) (old new : List ℕ) → end ≤ table_cells l p q → drop end new ≡ drop end old
      → drop (table_cells l p q) new ≡ drop (table_cells l p q) old
  behind_all end old new h e =
      let at_end : end + (table_cells l p q - end) ≡ table_cells l p q = omega arith in
      rw (← at_end, ← drop-drop (table_cells l p q - end) end new, ← drop-drop (table_cells l p q - end) end old, e)

  pub order_placed :
      (d : ℕ) (mid columns' : List ℕ) → Bounded rules loads l p q work mid d → none_binds rules 0 p ≡ true → none_binds rules 1 q ≡ true
      → columns' ≡ whole_walk (order_choice_in rules loads l d) l p q columns → BestPlaced rules loads l p q columns columns' work mid d
  order_placed d mid columns' b tops bottoms e =
      record {
        best_of = λ s is. by_order_best rules loads l p q s is d b.least tops bottoms columns columns' asked.room e;
        kept = b.table.kept;
        behind = behind_all (cells_of p q) work mid cells_few b.table.behind;
      }

  pub plan_asked : (1 ≤ l) × (l ≤ 64) × (p ≤ l) × (q ≤ l)
  plan_asked =
      let (tops, bottoms) = crowds_none rules loads l p q t given.is in
      ((wide rules loads l p q t given.is).0, (wide rules loads l p q t given.is).1, tops, bottoms)

  pub table_asked :
      (d : ℕ) (mid : List ℕ) → Bounded rules loads l p q work mid d
      → AsksPass mid (plan_of l p q) × (p + q ≤ length columns) × Below (feasible_in rules loads (plan_of l p q)) d
  table_asked d mid b = (
    record {
      lies =
          plan_lies l p q plan_asked.0 plan_asked.1 plan_asked.2 plan_asked.3 mid (omega (arith, asked.cells, b.table.kept));
      bottoms = plan_asked.3;
      columns = plan_asked.1;
    },
    asked.room,
    unmet_in rules loads l p q t given.is d b.least,
  )

  pub table_placed :
      (bound d : ℕ) (mid new columns' : List ℕ) → Bounded rules loads l p q work mid bound
      → Placed rules loads (plan_of l p q) mid new columns columns' d → BestPlaced rules loads l p q columns columns' work new d
  table_placed bound d mid new columns' b placed =
      record {
        best_of = λ s is. by_table_best rules loads l p q s is mid new columns columns' d asked.room placed;
        kept = placed.bound.table.kept ∙ b.table.kept;
        behind =
            behind_all (table_end (plan_of l p q)) mid new (table_within l p q plan_asked.0 plan_asked.1 plan_asked.2 plan_asked.3)
            placed.bound.table.behind
            ∙ behind_all (cells_of p q) work mid cells_few b.table.behind;
      }
