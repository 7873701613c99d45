-- Why the planes, filled one after the other, hold the table.
-- Assumes nothing.
use Rattle.std.proofs.Common.{ℕ, suc, ◌+◌, ◌-◌, ◌*◌, ◌%◌, ◌^◌, ◌≤◌, ◌<◌, ◌≡◌, refl, sym, ◌∙◌, ap, ap₂, subst, List, Bool, true, false, ◌&&◌, ◌⊎◌, inl, inr, arith, mul-le-mul_right, add-mul, one-mul, suc-mul, mod-eq_of_lt, length, drop, drop-drop, leb, ltb, eqb, ltb-true, ltb-false, eqb-true}
use Rattle.std.proofs.Math.Nat.{mul-add-mod_self_right}
use Rattle.std.proofs.lemmas.Bool.{eqb-false}
use Rattle.std.proofs.Math.Bool.{and-eq-true_iff}
use Rattle.channel.specs.Below.{any_below}
use Rattle.channel.proofs.Below.{any_below_cong}
use Rattle.bits.specs.Bits.{bit_of}
use Rattle.cells.specs.Cells.{word_at, put_word}
use Rattle.cells.proofs.Words.{length-put, drop-put, cell-put, word-put_same, word-put_other}
use Rattle.entry.specs.declared.Grid.{Grid}
use Rattle.arrays.specs.Rules.{range_at}
use Rattle.arrays.specs.Loads.{load_at}
use Rattle.rows.specs.Held.{held}
use Rattle.entry.specs.Entry.{cell}
use Rattle.table.specs.Planes.{Measures, Earlier, SameGaps, Filled, AsksTable, base_of}
use Rattle.entry.specs.Columns.{Tops, Union}

-- the products of the places
next-product : (n m : ℕ) → (n + 1) * m ≡ n * m + m
next-product n m = add-mul n 1 m ∙ ap (λ (k : ℕ). n * m + k) (one-mul m)

-- the planes of one top pin less, one bottom pin less, and one of each less
above_base : (g : Grid) (i j at : ℕ) → at ≡ base_of g (suc i) j → at - g.stride ≡ base_of g i j
above_base g i j at e = omega (arith, suc-mul i g.stride)

before_base : (g : Grid) (i j at : ℕ) → at ≡ base_of g i (suc j) → at - g.size ≡ base_of g i j
before_base g i j at e = omega (arith, suc-mul j g.size)

diagonal_base : (g : Grid) (i j at : ℕ) → at ≡ base_of g (suc i) (suc j) → at - (g.stride + g.size) ≡ base_of g i j
diagonal_base g i j at e = omega (arith, suc-mul i g.stride, suc-mul j g.size)

-- what is read of the planes before a row's own
module _ (rules loads : List ℕ) (bound : ℕ) (g : Grid) (i j : ℕ) (work : List ℕ) (few : j < g.across) where
  pub before_holds :
      (at x y : ℕ) → 0 < j → x < g.rows → y < 64 → at ≡ base_of g i j → Earlier rules loads bound g i j work
      → bit_of (word_at work (at - g.size + 4 * x)) y ≡ cell rules loads bound i (j - 1) x y
  before_holds at x y p hx hy e h =
      let there : at - g.size ≡ base_of g i (j - 1) = before_base g i (j - 1) at (e ∙ ap (base_of g i) (omega arith)) in
      ap (λ (b : ℕ). held work b x y) there ∙ h i (j - 1) x y (inr (refl, omega arith)) (omega arith) hx hy

  pub united_holds :
      (at by x w : ℕ) → 0 < i → x < g.rows → at ≡ base_of g (i - 1) j → by ≡ range_at rules 0 i
      → ((y : ℕ) → bit_of w y ≡ any_below (suc x) (λ (n : ℕ). bit_of by (x - n) && held work at n y))
      → Earlier rules loads bound g i j work → Union (range_at rules 0 i) x (cell rules loads bound (i - 1) j) w
  united_holds at by x w p hx e r union h y hy =
      union y
      ∙ any_below_cong (suc x) _ _
      (λ n l.
      ap₂ (λ (s t : Bool). s && t) (ap (λ (k : ℕ). bit_of k (x - n)) r)
      (ap (λ (b : ℕ). held work b n y) e ∙ h (i - 1) j n y (inl (omega arith)) few (omega arith) hy))

-- a word put into a plane leaves the planes before it
module _ (rules loads : List ℕ) (bound : ℕ) (g : Grid) (sizes : Measures g) where
  -- where the planes before (i, j) end
  plane_ends :
      (n m i j : ℕ) → (n < i) ⊎ ((n ≡ i) × (m < j)) → m < g.across → base_of g n m + g.size ≤ base_of g i j
  plane_ends n m i j (inl l) hm =
      omega (
        arith,
        next-product n g.stride,
        next-product m g.size,
        mul-le-mul_right g.stride (suc-le l),
        mul-le-mul_right g.size (suc-le hm),
        sizes.stride,
      )
    where
      suc-le : {a b : ℕ} → a < b → a + 1 ≤ b
      suc-le h = omega arith
  plane_ends n m i j (inr (e, l)) hm =
      let more : m + 1 ≤ j = omega arith in
      omega
      (arith, next-product m g.size, mul-le-mul_right g.size more, ap (λ (k : ℕ). k * g.stride) e)

-- the planes follow one another, each with its cells counted from 0
pub in_plane : (g : Grid) → Measures g → (n m k : ℕ) → k < g.size → (base_of g n m + k) % g.size ≡ k
in_plane g sizes n m k h =
    ap (λ (c : ℕ). c % g.size) whole ∙ mul-add-mod_self_right (n * g.across + m) g.size k ∙ mod-eq_of_lt h
  where
    whole : base_of g n m + k ≡ (n * g.across + m) * g.size + k
    whole = rw sizes.stride (omega arith)

-- the first x rows of plane (i, j), which starts at `at`, are filled, and so are the planes before it
pub record Rows (rules loads : List ℕ) (bound : ℕ) (g : Grid) (i j at x : ℕ) (old new : List ℕ) : Type 0 where
  pub kept : length new ≡ length old
  pub behind : drop (at + g.size) new ≡ drop (at + g.size) old
  pub gaps : SameGaps g old new
  pub cells : Earlier rules loads bound g i j new
  pub rows : (n y : ℕ) → n < x → y < 64 → held new at n y ≡ cell rules loads bound i j n y

module _ (rules loads : List ℕ) (bound : ℕ) (g : Grid) (sizes : Measures g) (i j at : ℕ) (place : at ≡ base_of g i j) (old : List ℕ) where
  pub rows_none : Earlier rules loads bound g i j old → Rows rules loads bound g i j at 0 old old
  rows_none h = record { kept = refl; behind = refl; gaps = λ k l. refl; cells = h; rows = λ n y l. absurd (omega arith) }

  -- one row more
  pub rows_more :
      (x w : ℕ) (work : List ℕ) → x < g.rows → at + g.size ≤ length old → w < 2 ^ 64
      → ((y : ℕ) → y < 64 → bit_of w y ≡ cell rules loads bound i j x y)
      → Rows rules loads bound g i j at x old work → Rows rules loads bound g i j at (x + 1) old (put_word work (at + 4 * x) w)
  rows_more x w work hx room small bits r =
      record {
        kept = length-put work (at + 4 * x) w ∙ r.kept;
        behind = drop-put work (at + 4 * x) w (at + g.size) (omega (arith, sizes.rows.0)) ∙ r.behind;
        gaps = λ k l. cell-put work (at + 4 * x) w k (beside k l (ltb k (at + 4 * x)) (ltb k (at + 4 * x + 4)) refl refl) ∙ r.gaps k l;
        cells =
            λ n m k y earlier hm hk hy.
            ap (λ (v : ℕ). bit_of v y)
            (word-put_other work (at + 4 * x) w (base_of g n m + 4 * k)
            (inl (omega (arith, sizes.rows.0, plane_ends rules loads bound g sizes n m i j earlier hm))))
            ∙ r.cells n m k y earlier hm hk hy;
        rows = λ n y l hy. by_row n y hy (eqb n x) refl (omega arith);
      }
    where
      -- a cell behind the rows of its plane is none of the four
      beside :
          (k : ℕ) → 4 * g.rows ≤ k % g.size → (s t : Bool) → ltb k (at + 4 * x) ≡ s → ltb k (at + 4 * x + 4) ≡ t
          → (k < at + 4 * x) ⊎ (at + 4 * x + 4 ≤ k)
      beside k l true t es et = inl (ltb-true _ _ es)
      beside k l false false es et = inr (ltb-false _ _ et)
      beside k l false true es et =
          let from : at + 4 * x ≤ k = ltb-false _ _ es in
          let to : k < at + 4 * x + 4 = ltb-true _ _ et in
          let there : base_of g i j + (k - at) ≡ k = omega arith in
          absurd
          (omega (arith, sizes.rows.0, rw there at (in_plane g sizes i j (k - at) (omega (arith, sizes.rows.0)))))

      here : word_at (put_word work (at + 4 * x) w) (at + 4 * x) ≡ w
      here = word-put_same work (at + 4 * x) w (omega (arith, sizes.rows.0, r.kept)) small

      by_row :
          (n y : ℕ) → y < 64 → (t : Bool) → eqb n x ≡ t → n ≤ x
          → held (put_word work (at + 4 * x) w) at n y ≡ cell rules loads bound i j n y
      by_row n y hy true e l =
          let same : n ≡ x = eqb-true n x e in
          rw same (ap (λ (v : ℕ). bit_of v y) here ∙ bits y hy)
      by_row n y hy false e l =
          let less : n < x = omega (arith, eqb-false n x e) in
          ap (λ (v : ℕ). bit_of v y) (word-put_other work (at + 4 * x) w (at + 4 * n) (inl (omega arith))) ∙ r.rows n y less hy

  -- the whole plane
  pub rows_all :
      (work : List ℕ) → Rows rules loads bound g i j at g.rows old work
      → Filled rules loads bound g i (j + 1) (base_of g i (j + 1)) old work
  rows_all work r =
      record {
        kept = r.kept;
        behind = subst (λ (k : ℕ). drop k work ≡ drop k old) next r.behind;
        gaps = r.gaps;
        cells = λ n m x y earlier hm hx hy. by-plane n m x y earlier hm hx hy (eqb n i) (eqb m j) refl refl;
      }
    where
      next : at + g.size ≡ base_of g i (j + 1)
      next = omega (arith, place, next-product j g.size)

      by-plane :
          (n m x y : ℕ) → (n < i) ⊎ ((n ≡ i) × (m < j + 1)) → m < g.across → x < g.rows → y < 64 → (s t : Bool) → eqb n i ≡ s
          → eqb m j ≡ t → held work (base_of g n m) x y ≡ cell rules loads bound n m x y
      by-plane n m x y (inl l) hm hx hy s t es et = r.cells n m x y (inl l) hm hx hy
      by-plane n m x y (inr (e, l)) hm hx hy s true es et =
          let same : m ≡ j = eqb-true m j et in
          rw (e, same) (ap (λ (b : ℕ). held work b x y) (sym place) ∙ r.rows x y hx hy)
      by-plane n m x y (inr (e, l)) hm hx hy s false es et =
          r.cells n m x y (inr (e, omega (arith, eqb-false m j et))) hm hx hy

-- all planes of one i
pub row_filled :
    (rules loads : List ℕ) (bound : ℕ) (g : Grid) (i end : ℕ) (old new : List ℕ)
    → Filled rules loads bound g i g.across end old new → Filled rules loads bound g (i + 1) 0 end old new
row_filled rules loads bound g i end old new f =
    record {
      kept = f.kept;
      behind = f.behind;
      gaps = f.gaps;
      cells = λ n m x y earlier hm hx hy. f.cells n m x y (by_row n m earlier hm (eqb n i) refl) hm hx hy;
    }
  where
    by_row : (n m : ℕ) → (n < i + 1) ⊎ ((n ≡ i + 1) × (m < 0)) → m < g.across → (t : Bool) → eqb n i ≡ t
        → (n < i) ⊎ ((n ≡ i) × (m < g.across))
    by_row n m (inl l) hm true e = inr (eqb-true n i e, hm)
    by_row n m (inl l) hm false e = inl (omega (arith, eqb-false n i e))
    by_row n m (inr (e, l)) hm t q = absurd (omega arith)

-- one step of filling after another, of the same table or of another bound's
pub filled_then :
    {rules loads : List ℕ} {bound bound' : ℕ} {g : Grid} {i j i' j' end end' : ℕ} {old mid new : List ℕ}
    → Filled rules loads bound g i j end old mid → Filled rules loads bound' g i' j' end' mid new → end ≤ end'
    → Filled rules loads bound' g i' j' end' old new
filled_then {end = end} {end' = end'} {old = old} {mid = mid} f h l =
    record {
      kept = h.kept ∙ f.kept;
      behind =
          h.behind
          ∙ ap (λ (k : ℕ). drop k mid) further
          ∙ sym (drop-drop (end' - end) end mid)
          ∙ ap (drop (end' - end)) f.behind
          ∙ drop-drop (end' - end) end old
          ∙ ap (λ (k : ℕ). drop k old) (sym further);
      gaps = λ k past. h.gaps k past ∙ f.gaps k past;
      cells = h.cells;
    }
  where
    further : end' ≡ end + (end' - end)
    further = omega arith

-- where the planes of one i start and end
module _ (g : Grid) (i : ℕ) where
  pub plane_next : (j : ℕ) → base_of g i j + g.size ≡ base_of g i (j + 1)
  plane_next j = omega (arith, next-product j g.size)

  pub plane_in_row : Measures g → (j : ℕ) → j < g.across → base_of g i j + g.size ≤ i * g.stride + g.stride
  plane_in_row sizes j h =
      let more : j + 1 ≤ g.across = omega arith in
      omega (arith, next-product j g.size, mul-le-mul_right g.size more, sizes.stride)

  pub row_next : i * g.stride + g.stride ≡ (i + 1) * g.stride
  row_next = sym (next-product i g.stride)

  pub row_in_table : (p : ℕ) → i ≤ p → i * g.stride + g.stride ≤ (p + 1) * g.stride
  row_in_table p h =
      let more : i + 1 ≤ p + 1 = omega arith in
      omega (arith, next-product i g.stride, mul-le-mul_right g.stride more)

  -- a row of a plane that lies in the cells
  pub row_room : (work : List ℕ) (j x : ℕ) → AsksTable work g i → j < g.across → x < g.rows → base_of g i j + 4 * x + 4 ≤ length work
  row_room work j x fits hj hx =
      omega (arith, plane_in_row fits.sizes j hj, row_next, fits.sizes.rows.0, fits.room)

  -- with the planes of 0 to p lie those of 0 to a smaller number
  pub fits-less : (work : List ℕ) (p : ℕ) → i ≤ p → AsksTable work g p → AsksTable work g i
  fits-less work p h fits =
      record { sizes = fits.sizes; tops = omega (arith, fits.tops); room = omega (arith, row_in_table p h, row_next, fits.room) }

-- whether planes lie in the cells goes by the number of cells alone
pub fits_kept : (old new : List ℕ) (g : Grid) (p : ℕ) → length new ≡ length old → AsksTable old g p → AsksTable new g p
fits_kept old new g p e fits = record { sizes = fits.sizes; tops = fits.tops; room = rw e fits.room }

-- nothing is filled yet
pub filled_none :
    (rules loads : List ℕ) (bound : ℕ) (g : Grid) (i j end : ℕ) (work : List ℕ) → Earlier rules loads bound g i j work
    → Filled rules loads bound g i j end work work
filled_none rules loads bound g i j end work h = record { kept = refl; behind = refl; gaps = λ k l. refl; cells = h }

-- a column that a letter has is within the bound
pub letter_within :
    (rules loads : List ℕ) (bound i j letter w x : ℕ) → Tops rules loads bound i j letter w → bit_of w x ≡ true
    → leb (load_at loads i j letter) bound ≡ true
letter_within rules loads bound i j letter w x tops e =
    ((and-eq-true_iff _ _).0 ((and-eq-true_iff _ _).0 (sym (tops x) ∙ e)).1).0
