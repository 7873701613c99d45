-- The table's measures: its planes fit the work cells.
-- Assumes nothing.
use Rattle.std.proofs.Common.{ℕ, zero, suc, ◌+◌, ◌-◌, ◌*◌, ◌≤◌, ◌≡◌, refl, List, Bool, true, false, cond, arith, mul_assoc, mul-le-mul_right, length, eqb}
use Rattle.std.proofs.Math.Nat.{mul-le-mul_left}
use Rattle.std.proofs.lemmas.Bool.{eqb-false}
use Rattle.table.specs.Planes.{Measures}
use Rattle.walk.specs.Walking.{AsksWalk}
use Rattle.pass.specs.Pass.{table_end}
use Rattle.solve.specs.Placed.{table_cells}
use Rattle.solve.specs.Solved.{rows_of, plan_of}

-- four cells for each row fit in a square of the columns
four_rows : (l : ℕ) → 1 ≤ l → 4 * l ≤ (l + 1) * (l + 1)
four_rows zero h = absurd (omega arith)
four_rows (suc zero) h = omega arith
four_rows (suc (suc zero)) h = omega arith
four_rows (suc (suc (suc k))) h =
    let four : 4 ≤ suc (suc (suc k)) + 1 = omega arith in
    omega (arith, mul-le-mul_right (suc (suc (suc k)) + 1) four)

module _ (l p q : ℕ) (h : 1 ≤ l) (g : l ≤ 64) (tops : p ≤ l) (bottoms : q ≤ l) where
  row_count : (1 ≤ rows_of l p) × (rows_of l p ≤ l)
  row_count = by-test (eqb p 0) refl
    where
      by-test : (t : Bool) → eqb p 0 ≡ t → (1 ≤ cond t 1 (l - p + 1)) × (cond t 1 (l - p + 1) ≤ l)
      by-test true q = (omega arith, h)
      by-test false q = (omega arith, omega (arith, eqb-false p 0 q))

  pub plan_sizes : Measures (plan_of l p q).grid
  plan_sizes =
      record {
        rows = (omega arith, omega (arith, row_count.1));
        across = (omega arith, omega arith);
        stride = refl;
      }

  -- the table lies in the cells that a search asks for
  pub table_within : table_end (plan_of l p q) ≤ table_cells l p q
  table_within =
      let plane : 4 * rows_of l p ≤ (l + 1) * (l + 1) = omega (arith, four_rows l h, row_count.1) in
      rw (← mul_assoc (p + 1) (q + 1) (4 * rows_of l p)) (mul-le-mul_left ((p + 1) * (q + 1)) plane)

  pub plan_lies : (work : List ℕ) → table_cells l p q ≤ length work → AsksWalk work (plan_of l p q).grid p q
  plan_lies work room =
      record {
        table = record { sizes = plan_sizes; tops = omega arith; room = omega (arith, table_within) };
        rows = row_count.0;
        bottoms = refl;
      }
