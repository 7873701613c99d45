-- The table's cells are the model's reach: the places that a table filled by a sheet's rules and loads holds are those that its pins
-- can reach.
-- Assumes nothing.
use Rattle.std.proofs.Common.{ℕ, zero, suc, pred, ◌+◌, ◌≤◌, ◌<◌, ◌≡◌, refl, sym, ◌∙◌, ap, ap₂, List, Bool, false, ◌&&◌, ◌||◌, ◌⊎◌, inl, inr, arith, add-zero, length, leb, ltb, lt-ltb, le-ltb, eq-eqb, ne_eqb}
use Rattle.std.proofs.Math.Bool.{and-false, or-false}
use Rattle.std.proofs.lemmas.Bool.{cases_order, false_from_ne_true}
use Rattle.channel.specs.Sheet.{Sheet}
use Rattle.arrays.specs.Rules.{range_at, allowed_at}
use Rattle.arrays.specs.Loads.{load_at}
use Rattle.entry.specs.Entry.{alone, start_part, both_part, entry, bottoms_only, with_tops, cell}
use Rattle.reach.specs.Reach.{reach}
use Rattle.reach.proofs.Reaches.{reach-none, reach-top, reach-bottom, reach-both, reach_no_top}
use Rattle.reach.proofs.Reaches.{reach_no_bottom, reach_only_bottoms, reach_only_tops}
use Rattle.reach.proofs.Bounds.{reach-held}
use Rattle.agreement.specs.Ready.{SheetLoads}
use Rattle.rules.specs.Sides.{SideRules}
use Rattle.agreement.proofs.Columns.{one_side, both_sides}

-- only the cell of no pins in no columns is the start
no_start : (i j x y : ℕ) → (x + i + (y + j) ≡ 0 → ⊥) → start_part i j x y ≡ false
no_start (suc i) j x y h = rw (ne_eqb (suc i) 0 (omega arith))
no_start zero (suc j) x y h = rw (ne_eqb (suc j) 0 (omega arith))
no_start zero zero (suc x) y h = rw (ne_eqb (suc x) 0 (omega arith))
no_start zero zero zero (suc y) h = rw (ne_eqb (suc y) 0 (omega arith))
no_start zero zero zero zero h = absurd (h refl)

-- which part of an entry counts: the column furthest right holds a top pin alone, a bottom pin alone, or both
module _ (rules loads : List ℕ) (d i j : ℕ) (above before diagonal : ℕ → ℕ → Bool) (x y : ℕ) where
  entry_top :
      y + j < x + i
      → entry rules loads d i j above before diagonal x y
      ≡ (ltb 0 i && alone (load_at loads i j 0) d (allowed_at rules 0 i) (range_at rules 0 i) above x y)
  unfolding entry
  entry_top h =
      rw (
        no_start i j x y (omega arith),
        lt-ltb (y + j) (x + i) h,
        le-ltb (x + i) (y + j) (omega arith),
        ne_eqb (y + j) (x + i) (omega arith),
      )
      (simp (and-false, or-false))

  entry-bottom :
      x + i < y + j
      → entry rules loads d i j above before diagonal x y
      ≡ (ltb 0 j && alone (load_at loads i j 1) d (allowed_at rules 1 j) (range_at rules 1 j) (λ (n m : ℕ). before m n) y x)
  unfolding entry
  entry-bottom h =
      rw (
        no_start i j x y (omega arith),
        le-ltb (y + j) (x + i) (omega arith),
        lt-ltb (x + i) (y + j) h,
        ne_eqb (y + j) (x + i) (omega arith),
      )
      (simp (and-false, or-false))

  entry-both :
      y + j ≡ x + i
      → entry rules loads d i j above before diagonal x y
      ≡ (start_part i j x y || both_part rules loads d i j diagonal x y)
  unfolding entry
  entry-both h =
      rw (le-ltb (y + j) (x + i) (omega arith), le-ltb (x + i) (y + j) (omega arith)) (simp and-false)

module _
    (s : Sheet) (rules loads : List ℕ) (d : ℕ) (tops : SideRules 0 s.top rules) (bottoms : SideRules 1 s.bottom rules)
    (cuts : SheetLoads s loads)
  where
    -- no last pin stands left of its own number
    short : (i j u v : ℕ) → (i ≤ u → j ≤ v → ⊥) → reach s d i j u v ≡ false
    short i j u v h = false_from_ne_true _ (λ e. h (reach-held s d i j u v e).0.room (reach-held s d i j u v e).1.room)

    -- the part of an entry that counts is the model's, where the cells of the planes before it are: the one for a top pin alone
    top-reach :
        (i j x y : ℕ) → i ≤ length s.top → j ≤ length s.bottom → x < 64 → y + j < x + i → (above : ℕ → ℕ → Bool)
        → (0 < i → (n : ℕ) → n ≤ x → above n y ≡ reach s d (pred i) j (n + pred i) (y + j))
        → (ltb 0 i && alone (load_at loads i j 0) d (allowed_at rules 0 i) (range_at rules 0 i) above x y)
        ≡ reach s d i j (x + i) (y + j)
    top-reach zero j x y hi hj hx h above same = sym (reach_no_top s d j (x + 0) (y + j) h)
    top-reach (suc i) j x y hi hj hx h above same =
        rw (lt-ltb 0 (suc i) (omega arith), reach-top s d i j (x + suc i) (y + j) h)
        (ap₂ (λ (a b : Bool). a && b) (ap (λ (k : ℕ). leb k d) (cuts.top (suc i) j (omega arith) hi hj))
        (one_side tops i x hi hx (λ (n : ℕ). above n y) (λ (t : ℕ). reach s d i j t (y + j))
        (λ t l. short i j t (y + j) (λ k m. omega arith)) (same (omega arith))))

    -- for a bottom pin alone
    bottom-reach :
        (i j x y : ℕ) → i ≤ length s.top → j ≤ length s.bottom → y < 64 → x + i < y + j → (before : ℕ → ℕ → Bool)
        → (0 < j → (m : ℕ) → m ≤ y → before x m ≡ reach s d i (pred j) (x + i) (m + pred j))
        → (ltb 0 j && alone (load_at loads i j 1) d (allowed_at rules 1 j) (range_at rules 1 j) (λ (n m : ℕ). before m n) y x)
        ≡ reach s d i j (x + i) (y + j)
    bottom-reach i zero x y hi hj hy h before same = sym (reach_no_bottom s d i (x + i) (y + 0) h)
    bottom-reach i (suc j) x y hi hj hy h before same =
        rw (lt-ltb 0 (suc j) (omega arith), reach-bottom s d i j (x + i) (y + suc j) h)
        (ap₂ (λ (a b : Bool). a && b) (ap (λ (k : ℕ). leb k d) (cuts.bottom i (suc j) hi (omega arith) hj))
        (one_side bottoms j y hj hy (before x) (reach s d i j (x + i)) (λ t l. short i j (x + i) t (λ k m. omega arith))
        (same (omega arith))))

    -- for both, or for no pin at all
    both-reach :
        (i j x y : ℕ) → i ≤ length s.top → j ≤ length s.bottom → x < 64 → y < 64 → y + j ≡ x + i → (diagonal : ℕ → ℕ → Bool)
        → (0 < i → 0 < j → (n m : ℕ) → n ≤ x → m ≤ y → diagonal n m ≡ reach s d (pred i) (pred j) (n + pred i) (m + pred j))
        → (start_part i j x y || both_part rules loads d i j diagonal x y) ≡ reach s d i j (x + i) (y + j)
    both-reach zero zero x y hi hj hx hy e diagonal same = rw reach-none (simp (or-false, add-zero))
    both-reach zero (suc j) x y hi hj hx hy e diagonal same =
        rw (no_start 0 (suc j) x y (omega arith), e) (sym (reach_only_bottoms s d j (x + 0)))
    both-reach (suc i) zero x y hi hj hx hy e diagonal same =
        rw (no_start (suc i) 0 x y (omega arith), e) (and-false (ltb 0 (suc i)) ∙ sym (reach_only_tops s d i (x + suc i)))
    both-reach (suc i) (suc j) x y hi hj hx hy e diagonal same =
        rw (
          no_start (suc i) (suc j) x y (omega arith),
          lt-ltb 0 (suc i) (omega arith),
          lt-ltb 0 (suc j) (omega arith),
          eq-eqb (y + suc j) (x + suc i) e,
        )
        (ap₂ (λ (a b : Bool). a && b) (ap (λ (k : ℕ). leb k d) (cuts.both (suc i) (suc j) (omega arith) hi (omega arith) hj))
        (both_sides tops bottoms i j x y hi hj hx hy diagonal (reach s d i j) (short i j) (same (omega arith) (omega arith)))
        ∙ rw e (sym (reach-both s d i j (x + suc i))))

    -- so an entry is the model's, wherever the pins stand
    entry-reach :
        (i j x y : ℕ) → i ≤ length s.top → j ≤ length s.bottom → x < 64 → y < 64 → (above before diagonal : ℕ → ℕ → Bool)
        → (0 < i → (n : ℕ) → n ≤ x → above n y ≡ reach s d (pred i) j (n + pred i) (y + j))
        → (0 < j → (m : ℕ) → m ≤ y → before x m ≡ reach s d i (pred j) (x + i) (m + pred j))
        → (0 < i → 0 < j → (n m : ℕ) → n ≤ x → m ≤ y → diagonal n m ≡ reach s d (pred i) (pred j) (n + pred i) (m + pred j))
        → entry rules loads d i j above before diagonal x y ≡ reach s d i j (x + i) (y + j)
    entry-reach i j x y hi hj hx hy above before diagonal a b c = by_order (cases_order (y + j) (x + i))
      where
        by_order :
            (y + j ≡ x + i) ⊎ ((y + j < x + i) ⊎ (x + i < y + j))
            → entry rules loads d i j above before diagonal x y ≡ reach s d i j (x + i) (y + j)
        by_order (inl e) = entry-both rules loads d i j above before diagonal x y e ∙ both-reach i j x y hi hj hx hy e diagonal c
        by_order (inr (inl h)) = entry_top rules loads d i j above before diagonal x y h ∙ top-reach i j x y hi hj hx h above a
        by_order (inr (inr h)) = entry-bottom rules loads d i j above before diagonal x y h ∙ bottom-reach i j x y hi hj hy h before b

    -- and so is each cell, plane after plane
    pub cell-reach :
        (i j x y : ℕ) → i ≤ length s.top → j ≤ length s.bottom → x < 64 → y < 64
        → cell rules loads d i j x y ≡ reach s d i j (x + i) (y + j)
    unfolding cell bottoms_only with_tops
    cell-reach zero zero x y hi hj hx hy =
        entry-reach 0 0 x y hi hj hx hy _ _ _ (λ p. absurd (omega arith)) (λ p. absurd (omega arith)) (λ p. absurd (omega arith))
    cell-reach zero (suc j) x y hi hj hx hy =
        entry-reach 0 (suc j) x y hi hj hx hy _ _ _ (λ p. absurd (omega arith))
        (λ p m l. cell-reach zero j x m hi (omega arith) hx (omega arith)) (λ p. absurd (omega arith))
    cell-reach (suc i) zero x y hi hj hx hy =
        entry-reach (suc i) 0 x y hi hj hx hy _ _ _
        (λ p n l. cell-reach i zero n y (omega arith) hj (omega arith) hy)
        (λ p. absurd (omega arith)) (λ p q. absurd (omega arith))
    cell-reach (suc i) (suc j) x y hi hj hx hy =
        entry-reach (suc i) (suc j) x y hi hj hx hy _ _ _
        (λ p n l. cell-reach i (suc j) n y (omega arith) hj (omega arith) hy)
        (λ p m l. cell-reach (suc i) j x m hi (omega arith) hx (omega arith))
        (λ p q n m k l. cell-reach i j n m (omega arith) (omega arith) (omega arith) (omega arith))
