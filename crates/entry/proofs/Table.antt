-- Laws of the table: its own planes before a place give the place, and where nothing stands.
-- Assumes nothing.
use Rattle.std.proofs.Common.{ℕ, zero, suc, ◌+◌, ◌-◌, ◌≤◌, ◌<◌, ◌≡◌, refl, sym, ◌∙◌, ap, ap₂, List, Bool, true, false, ◌&&◌, ◌||◌, arith, sub-one, leb, ltb, eqb, ltb-true, eqb-true, ne_eqb, true≢false}
use Rattle.std.proofs.Math.Bool.{and-false, and_assoc}
use Rattle.channel.specs.Below.{any_below}
use Rattle.channel.proofs.Below.{any_below_cong, any_below-none}
use Rattle.bits.specs.Bits.{bit_of}
use Rattle.bits.proofs.Laws.{bit_one, bit_zero}
use Rattle.arrays.specs.Rules.{allowed_at, range_at}
use Rattle.arrays.specs.Loads.{load_at}
use Rattle.entry.specs.Entry.{start_part, top_part, bottom_part, both_part, entry, bottoms_only, with_tops, cell}
use Rattle.entry.specs.Columns.{rows_of, Tops, Top, Bottom}

-- a part that counts only where a pin is placed
guarded : (i : ℕ) {a b : Bool} → (0 < i → a ≡ b) → (ltb 0 i && a) ≡ (ltb 0 i && b)
guarded i {a} {b} h = by-test (ltb 0 i) refl
  where
    by-test : (t : Bool) → ltb 0 i ≡ t → (t && a) ≡ (t && b)
    by-test true e = h (ltb-true 0 i e)
    by-test false e = refl

-- an entry depends on the planes before it only where there are any, and only on the places up to its own
module _ (rules loads : List ℕ) (bound i j x y : ℕ) where
  top_cong :
      (f g : ℕ → ℕ → Bool) → (0 < i → (n : ℕ) → n ≤ x → f n y ≡ g n y)
      → top_part rules loads bound i j f x y ≡ top_part rules loads bound i j g x y
  top_cong f g h =
      guarded i λ p.
      ap (λ (t : Bool). ltb (y + j) (x + i) && (leb (load_at loads i j 0) bound && (bit_of (allowed_at rules 0 i) x && t)))
      (any_below_cong (suc x) _ _ (λ n l. ap (λ (t : Bool). bit_of (range_at rules 0 i) (x - n) && t) (h p n (omega arith))))

  bottom_cong :
      (f g : ℕ → ℕ → Bool) → (0 < j → (n : ℕ) → n ≤ y → f x n ≡ g x n)
      → bottom_part rules loads bound i j f x y ≡ bottom_part rules loads bound i j g x y
  bottom_cong f g h =
      guarded j λ p.
      ap (λ (t : Bool). ltb (x + i) (y + j) && (leb (load_at loads i j 1) bound && (bit_of (allowed_at rules 1 j) y && t)))
      (any_below_cong (suc y) _ _ (λ n l. ap (λ (t : Bool). bit_of (range_at rules 1 j) (y - n) && t) (h p n (omega arith))))

  both_cong :
      (f g : ℕ → ℕ → Bool) → (0 < i → 0 < j → (n m : ℕ) → n ≤ x → m ≤ y → f n m ≡ g n m)
      → both_part rules loads bound i j f x y ≡ both_part rules loads bound i j g x y
  both_cong f g h =
      guarded i λ p.
      guarded j λ q.
      ap
      (λ (t : Bool). eqb (y + j) (x + i)
      && (leb (load_at loads i j 2) bound && (bit_of (allowed_at rules 0 i) x && (bit_of (allowed_at rules 1 j) y && t))))
      (any_below_cong (suc y) _ _
      (λ m l. ap (λ (t : Bool). bit_of (range_at rules 1 j) (y - m) && t)
      (any_below_cong (suc x) _ _
      (λ n k. ap (λ (t : Bool). bit_of (range_at rules 0 i) (x - n) && t) (h p q n m (omega arith) (omega arith))))))

  entry_cong :
      (a a' b b' d d' : ℕ → ℕ → Bool) → (0 < i → (n : ℕ) → n ≤ x → a n y ≡ a' n y) → (0 < j → (n : ℕ) → n ≤ y → b x n ≡ b' x n)
      → (0 < i → 0 < j → (n m : ℕ) → n ≤ x → m ≤ y → d n m ≡ d' n m)
      → entry rules loads bound i j a b d x y ≡ entry rules loads bound i j a' b' d' x y
  unfolding entry
  entry_cong a a' b b' d d' ha hb hd =
      ap (λ (t : Bool). start_part i j x y || t)
      (ap₂ (λ (s t : Bool). s || t) (top_cong a a' ha) (ap₂ (λ (s t : Bool). s || t) (bottom_cong b b' hb) (both_cong d d' hd)))

-- in a row in which the last top pin may not stand, an entry has none but from the same row of the plane before
module _ (rules loads : List ℕ) (bound : ℕ) where
  no_bottom :
      (i j x y : ℕ) (b : ℕ → ℕ → Bool) → (0 < j → (m : ℕ) → b x m ≡ false) → bottom_part rules loads bound i j b x y ≡ false
  no_bottom i zero x y b none = refl
  no_bottom i (suc j) x y b none =
      let steps : any_below (suc y) (λ (m : ℕ). bit_of (range_at rules 1 (suc j)) (y - m) && b x m) ≡ false =
      any_below-none (suc y) (λ (m : ℕ). bit_of (range_at rules 1 (suc j)) (y - m) && b x m)
      (λ m l. rw (none (omega arith) m) (and-false (bit_of (range_at rules 1 (suc j)) (y - m)))) in
      rw steps (simp and-false refl)

  empty_row :
      (i j x y : ℕ) (a b d : ℕ → ℕ → Bool) → bit_of (rows_of rules i) x ≡ false → (0 < j → (m : ℕ) → b x m ≡ false)
      → entry rules loads bound i j a b d x y ≡ false
  unfolding entry
  empty_row zero j x y a b d e none =
      let away : eqb x 0 ≡ false = sym (bit_one x) ∙ e in
      rw (away, no_bottom 0 j x y b none, and-false) refl
  empty_row (suc i) j x y a b d e none =
      let placed : eqb (suc i) 0 ≡ false = ne_eqb (suc i) 0 (λ q. omega arith) in
      let stands : bit_of (allowed_at rules 0 (suc i)) x ≡ false = rw placed at e in
      rw (placed, stands, no_bottom (suc i) j x y b none) (simp and-false refl)

-- the table's own planes before it give each place
module _ (rules loads : List ℕ) (bound : ℕ) where
  abbrev table : ℕ → ℕ → ℕ → ℕ → Bool
  table = cell rules loads bound

  pub entry-cell :
      (i j x y : ℕ) → entry rules loads bound i j (table (i - 1) j) (table i (j - 1)) (table (i - 1) (j - 1)) x y ≡ table i j x y
  unfolding cell bottoms_only with_tops
  entry-cell zero zero x y =
      entry_cong rules loads bound 0 0 x y _ _ _ _ _ _ (λ p. absurd (omega arith)) (λ p. absurd (omega arith)) (λ p. absurd (omega arith))
  entry-cell zero (suc j) x y =
      rw (sub-one (suc j))
      (entry_cong rules loads bound 0 (suc j) x y _ _ _ _ _ _ (λ p. absurd (omega arith)) (λ p n l. refl) (λ p. absurd (omega arith)))
  entry-cell (suc i) zero x y =
      rw (sub-one (suc i))
      (entry_cong rules loads bound (suc i) 0 x y _ _ _ _ _ _ (λ p n l. refl) (λ p. absurd (omega arith)) (λ p q. absurd (omega arith)))
  entry-cell (suc i) (suc j) x y = rw (sub-one (suc i), sub-one (suc j)) refl

  -- nothing stands in a row in which the last top pin may not stand
  pub no_row : (i j x y : ℕ) → bit_of (rows_of rules i) x ≡ false → table i j x y ≡ false
  no_row i zero x y e = sym (entry-cell i 0 x y) ∙ empty_row rules loads bound i 0 x y _ _ _ e (λ p m. absurd (omega arith))
  no_row i (suc j) x y e =
      sym (entry-cell i (suc j) x y)
      ∙ empty_row rules loads bound i (suc j) x y _ _ _ e (λ p m. ap (λ (k : ℕ). table i k x m) (sub-one (suc j)) ∙ no_row i j x m e)

-- where no letter has a column, nothing stands
absent : (a b c d e : Bool) → (a && (b && c)) ≡ false → (a && (d && (b && (c && e)))) ≡ false
absent true true true d e h = absurd (true≢false h)
absent true true false d e h = and-false d
absent true false c d e h = and-false d
absent false b c d e h = refl

module _ (rules loads : List ℕ) (bound i j : ℕ) (some : i + j ≡ 0 → ⊥) where
  no_start : (x y : ℕ) → start_part i j x y ≡ false
  no_start x y = by-test (eqb i 0) (eqb j 0) refl refl
    where
      by-test : (s t : Bool) → eqb i 0 ≡ s → eqb j 0 ≡ t → (s && (t && (eqb x 0 && eqb y 0))) ≡ false
      by-test true true p q = absurd (some (omega (arith, eqb-true i 0 p, eqb-true j 0 q)))
      by-test true false p q = refl
      by-test false t p q = refl

  module _ (top bottom pair : ℕ) (no_top : top ≡ 0) (no_bottoms : bottom ≡ 0) (no_pair : pair ≡ 0) where
    empty_entry :
        (a b d : ℕ → ℕ → Bool) (x y : ℕ) → Top rules loads bound i j top → Bottom rules loads bound i j bottom
        → Tops rules loads bound i j 2 pair → entry rules loads bound i j a b d x y ≡ false
    unfolding entry
    empty_entry a b d x y tops bottoms pairs =
        ap₂ (λ (s t : Bool). s || t) (no_start x y)
        (ap₂ (λ (s t : Bool). s || t)
        (absent (ltb 0 i) (leb (load_at loads i j 0) bound) (bit_of (allowed_at rules 0 i) x) (ltb (y + j) (x + i)) _
        (sym (tops x) ∙ ap (λ (w : ℕ). bit_of w x) no_top ∙ bit_zero x))
        (ap₂ (λ (s t : Bool). s || t)
        (absent (ltb 0 j) (leb (load_at loads i j 1) bound) (bit_of (allowed_at rules 1 j) y) (ltb (x + i) (y + j)) _
        (sym (bottoms y) ∙ ap (λ (w : ℕ). bit_of w y) no_bottoms ∙ bit_zero y))
        (ap (λ (t : Bool). ltb 0 i && t) (sym (and_assoc (ltb 0 j) (eqb (y + j) (x + i)) _))
        ∙ absent (ltb 0 i) (leb (load_at loads i j 2) bound) (bit_of (allowed_at rules 0 i) x) (ltb 0 j && eqb (y + j) (x + i)) _
        (sym (pairs x) ∙ ap (λ (w : ℕ). bit_of w x) no_pair ∙ bit_zero x))))

    pub no_letter :
        Top rules loads bound i j top → Bottom rules loads bound i j bottom → Tops rules loads bound i j 2 pair
        → (x y : ℕ) → cell rules loads bound i j x y ≡ false
    no_letter tops bottoms pairs x y = sym (entry-cell rules loads bound i j x y) ∙ empty_entry _ _ _ x y tops bottoms pairs

  -- nor where the planes before it hold nothing
  no_steps : (by x : ℕ) → any_below (suc x) (λ (n : ℕ). bit_of by (x - n) && false) ≡ false
  no_steps by x = any_below-none (suc x) (λ (n : ℕ). bit_of by (x - n) && false) (λ n l. and-false (bit_of by (x - n)))

  from_none : (x y : ℕ) → entry rules loads bound i j (λ (n m : ℕ). false) (λ (n m : ℕ). false) (λ (n m : ℕ). false) x y ≡ false
  unfolding entry
  from_none x y =
      let pairs : any_below (suc y)
      (λ (m : ℕ). bit_of (range_at rules 1 j) (y - m) && any_below (suc x) (λ (n : ℕ). bit_of (range_at rules 0 i) (x - n) && false))
      ≡ false =
      any_below-none (suc y)
      (λ (m : ℕ). bit_of (range_at rules 1 j) (y - m) && any_below (suc x) (λ (n : ℕ). bit_of (range_at rules 0 i) (x - n) && false))
      (λ m l. rw (no_steps (range_at rules 0 i) x) (and-false (bit_of (range_at rules 1 j) (y - m)))) in
      rw (no_start x y, pairs, no_steps (range_at rules 0 i) x, no_steps (range_at rules 1 j) y) (simp and-false refl)

  pub none_before :
      (x y : ℕ) → (0 < i → (n : ℕ) → n ≤ x → cell rules loads bound (i - 1) j n y ≡ false)
      → (0 < j → (m : ℕ) → m ≤ y → cell rules loads bound i (j - 1) x m ≡ false)
      → (0 < i → 0 < j → (n m : ℕ) → n ≤ x → m ≤ y → cell rules loads bound (i - 1) (j - 1) n m ≡ false)
      → cell rules loads bound i j x y ≡ false
  none_before x y above before diagonal =
      sym (entry-cell rules loads bound i j x y)
      ∙ entry_cong rules loads bound i j x y _ _ _ _ _ _ above before diagonal
      ∙ from_none x y
