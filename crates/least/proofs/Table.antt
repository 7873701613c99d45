-- Laws of the table of least columns: how each comes from those in the cells before it, and the cells of one (i, j) more.
-- Assumes nothing.
use Rattle.std.proofs.Common.{ℕ, zero, suc, ◌+◌, ◌-◌, ◌*◌, ◌≤◌, ◌<◌, ◌≡◌, refl, ◌∙◌, ap, min, List, Bool, true, false, arith, length, length-set, drop, drop-drop, get_or, set, get_or-set_same, get_or-set_other, sub-one, eqb, eqb-true, eq-eqb, ne_eqb}
use Rattle.std.proofs.Math.Nat.{mul-suc, mul-le-mul_left}
use Rattle.std.proofs.lemmas.List.{drop-set-lt}
use Rattle.std.proofs.lemmas.Bool.{eqb-false}
use Rattle.least.specs.Least.{top_last, bottom_last, both_last, least_from, bottoms_least, tops_least, least_in}
use Rattle.least.specs.Table.{cell_of, cells_of, HoldsTo, Written}

-- the least column from those before it; a pin that is not there leaves what stands in its place open
module _ (rules loads : List ℕ) (l bound : ℕ) where
  least_step :
      (i j above before diagonal : ℕ) → (0 < i → above ≡ least_in rules loads l bound (i - 1) j)
      → (0 < j → before ≡ least_in rules loads l bound i (j - 1))
      → (0 < i → 0 < j → diagonal ≡ least_in rules loads l bound (i - 1) (j - 1))
      → least_from rules loads l bound i j above before diagonal ≡ least_in rules loads l bound i j
  unfolding least_in bottoms_least tops_least least_from
  least_step zero zero above before diagonal a b d = refl
  least_step zero (suc j) above before diagonal a b d = rw (b (omega arith), sub-one (suc j)) refl
  least_step (suc i) zero above before diagonal a b d = rw (a (omega arith), sub-one (suc i)) refl
  least_step (suc i) (suc j) above before diagonal a b d =
      rw (a (omega arith), b (omega arith), d (omega arith) (omega arith), sub-one (suc i), sub-one (suc j)) refl

-- a row has q + 1 cells
row_more : (q i : ℕ) → (q + 1) * suc i ≡ (q + 1) * i + (q + 1)
row_more q i = mul-suc (q + 1) i

-- a cell less than q + 1 behind the start of a row is that row's
same_cell : (q i j n m : ℕ) → j ≤ q → m ≤ q → cell_of q n m ≡ cell_of q i j → (n ≡ i) × (m ≡ j)
same_cell q zero j zero m h g e = (refl, omega arith)
same_cell q zero j (suc n) m h g e = absurd (omega (arith, row_more q n))
same_cell q (suc i) j zero m h g e = absurd (omega (arith, row_more q i))
same_cell q (suc i) j (suc n) m h g e =
    let (a, b) = same_cell q i j n m h g (omega (arith, row_more q n, row_more q i)) in (ap suc a, b)

module _ (rules loads : List ℕ) (l bound q i j : ℕ) (work : List ℕ) (few : j ≤ q) (holds : HoldsTo rules loads l bound q (cell_of q i j) work) where
  abbrev column : ℕ → ℕ → ℕ
  column = least_in rules loads l bound

  -- the cells of one top pin less, one bottom pin less, and one of each less
  above : 0 < i → get_or work (cell_of q i j - (q + 1)) 0 ≡ column (i - 1) j
  above h = go i h holds
    where
      go : (i : ℕ) → 0 < i → HoldsTo rules loads l bound q (cell_of q i j) work → get_or work (cell_of q i j - (q + 1)) 0 ≡ column (i - 1) j
      go zero h holds = absurd (omega arith)
      go (suc k) h holds =
          let at_cell : (q + 1) * suc k + j - (q + 1) ≡ (q + 1) * k + j = omega (arith, row_more q k) in
          rw (at_cell, sub-one (suc k)) (holds k j few (omega (arith, row_more q k)))

  before : 0 < j → get_or work (cell_of q i j - 1) 0 ≡ column i (j - 1)
  before h =
      let at_cell : (q + 1) * i + j - 1 ≡ (q + 1) * i + (j - 1) = omega arith in
      rw at_cell (holds i (j - 1) (omega arith) (omega arith))

  diagonal : 0 < i → 0 < j → get_or work (cell_of q i j - (q + 1) - 1) 0 ≡ column (i - 1) (j - 1)
  diagonal h g = go i h holds
    where
      go : (i : ℕ) → 0 < i → HoldsTo rules loads l bound q (cell_of q i j) work
          → get_or work (cell_of q i j - (q + 1) - 1) 0 ≡ column (i - 1) (j - 1)
      go zero h holds = absurd (omega arith)
      go (suc k) h holds =
          let at_cell : (q + 1) * suc k + j - (q + 1) - 1 ≡ (q + 1) * k + (j - 1) = omega (arith, row_more q k) in
          rw (at_cell, sub-one (suc k)) (holds k (j - 1) (omega arith) (omega (arith, row_more q k)))

  -- so the least column is that of the pins that there are
  pub from_none : i ≡ 0 → j ≡ 0 → 0 ≡ column i j
  unfolding least_from
  from_none e f =
      rw (eq-eqb i 0 e, eq-eqb j 0 f) at
      (least_step rules loads l bound i j 0 0 0 (λ h. absurd (omega arith)) (λ h. absurd (omega arith)) (λ h g. absurd (omega arith)))

  pub from_bottoms : i ≡ 0 → (j ≡ 0 → ⊥) → bottom_last rules loads l bound i j (get_or work (cell_of q i j - 1) 0) ≡ column i j
  unfolding least_from
  from_bottoms e f =
      rw (eq-eqb i 0 e, ne_eqb j 0 f) at
      (least_step rules loads l bound i j 0 (get_or work (cell_of q i j - 1) 0) 0 (λ h. absurd (omega arith)) before (λ h g. absurd (omega arith)))

  pub from_tops : (i ≡ 0 → ⊥) → j ≡ 0 → top_last rules loads l bound i j (get_or work (cell_of q i j - (q + 1)) 0) ≡ column i j
  unfolding least_from
  from_tops e f =
      rw (ne_eqb i 0 e, eq-eqb j 0 f) at
      (least_step rules loads l bound i j (get_or work (cell_of q i j - (q + 1)) 0) 0 0 above (λ h. absurd (omega arith)) (λ h g. absurd (omega arith)))

  pub from_all :
      (i ≡ 0 → ⊥) → (j ≡ 0 → ⊥)
      → min (top_last rules loads l bound i j (get_or work (cell_of q i j - (q + 1)) 0))
      (min (bottom_last rules loads l bound i j (get_or work (cell_of q i j - 1) 0))
      (both_last rules loads l bound i j (get_or work (cell_of q i j - (q + 1) - 1) 0)))
      ≡ column i j
  unfolding least_from
  from_all e f =
      rw (ne_eqb i 0 e, ne_eqb j 0 f) at
      (least_step rules loads l bound i j (get_or work (cell_of q i j - (q + 1)) 0) (get_or work (cell_of q i j - 1) 0)
      (get_or work (cell_of q i j - (q + 1) - 1) 0) above before diagonal)

  -- with this cell put in, one cell more
  holds_more :
      cell_of q i j < length work → (end : ℕ) → end ≤ suc (cell_of q i j)
      → HoldsTo rules loads l bound q end (set work (cell_of q i j) (column i j))
  holds_more h end k n m g less = by-test (eqb (cell_of q n m) (cell_of q i j)) refl
    where
      new : List ℕ
      new = set work (cell_of q i j) (column i j)

      by-test : (t : Bool) → eqb (cell_of q n m) (cell_of q i j) ≡ t → get_or new (cell_of q n m) 0 ≡ column n m
      by-test true t =
          let same : cell_of q n m ≡ cell_of q i j = eqb-true (cell_of q n m) (cell_of q i j) t in
          let (a, b) = same_cell q i j n m few g same in
          rw (a, b) (get_or-set_same work (cell_of q i j) (column i j) 0 h)
      by-test false t =
          let other : cell_of q n m ≡ cell_of q i j → ⊥ = eqb-false (cell_of q n m) (cell_of q i j) t in
          get_or-set_other work (cell_of q i j) (cell_of q n m) (column i j) 0 other ∙ holds n m g (omega (arith, other))

-- what is the same behind a cell is so behind a later one
behind_on : (old new : List ℕ) (a b : ℕ) → a ≤ b → drop a new ≡ drop a old → drop b new ≡ drop b old
behind_on old new a b h e =
    let at_b : a + (b - a) ≡ b = omega arith in
    rw (← at_b, ← drop-drop (b - a) a new, ← drop-drop (b - a) a old, e)

-- the cells of all lie in as many cells
pub in_cells : (p q i j : ℕ) → i ≤ p → j ≤ q → cell_of q i j < cells_of p q
in_cells p q i j h g =
    let row : (q + 1) * suc i ≤ (q + 1) * (p + 1) = mul-le-mul_left (q + 1) (omega arith) in
    omega (arith, row_more q i)

module _ (rules loads : List ℕ) (l bound q : ℕ) (old : List ℕ) where
  -- the cells up to (i, j) are in, and then one more
  pub written_more :
      (i j : ℕ) (work : List ℕ) (r : ℕ) → j ≤ q → cell_of q i j < length work → r ≡ least_in rules loads l bound i j
      → Written rules loads l bound q (cell_of q i j) old work
      → Written rules loads l bound q (cell_of q i (j + 1)) old (set work (cell_of q i j) r)
  written_more i j work r few h e w =
      record {
        kept = length-set work (cell_of q i j) r ∙ w.kept;
        behind =
            drop-set-lt (cell_of q i (j + 1)) work (cell_of q i j) r (omega arith)
            ∙ behind_on old work (cell_of q i j) (cell_of q i (j + 1)) (omega arith) w.behind;
        cells = rw e (holds_more rules loads l bound q i j work few w.cells h (cell_of q i (j + 1)) (omega arith));
      }

  -- one row after the other
  pub written_on :
      (i : ℕ) (work new : List ℕ) → Written rules loads l bound q (cell_of q i 0) old work
      → Written rules loads l bound q (cell_of q (i + 1) 0) work new → Written rules loads l bound q (cell_of q (i + 1) 0) old new
  written_on i work new w v =
      record {
        kept = v.kept ∙ w.kept;
        behind = v.behind ∙ behind_on old work (cell_of q i 0) (cell_of q (i + 1) 0) (omega (arith, row_more q i)) w.behind;
        cells = v.cells;
      }
