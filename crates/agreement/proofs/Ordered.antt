-- The least columns and the walk by order, from the rules and the loads of a sheet, are the model's; so where no distance binds, the walk
-- by order writes the columns of the model's walk.
-- Assumes nothing.
use Rattle.std.proofs.Common.{ℕ, zero, suc, min, ◌+◌, ◌-◌, ◌≤◌, ◌≡◌, refl, sym, ◌∙◌, ap, ap₂, List, ◌++◌, Bool, true, false, cond, ◌&&◌, arith, sub-one, length, drop, not, leb, ltb, eqb, leb-true, leb-false, lt-ltb, ne_eqb, le_refl}
use Rattle.std.proofs.Math.Bool.{and-false}
use Rattle.channel.specs.Sheet.{Terminal, Sheet}
use Rattle.channel.specs.Assignment.{allows}
use Rattle.channel.specs.Word.{Letter, rank, has_top, has_bottom, columns_of}
use Rattle.channel.specs.Word.Letter.{empty, top, bottom, both}
use Rattle.channel.specs.Cut.{count, load}
use Rattle.arrays.specs.Rules.{allowed_at}
use Rattle.bits.specs.Bits.{bit_of}
use Rattle.bits.proofs.Laws.{bit_shl, bit_of-bit_and}
use Rattle.reach.specs.Reach.{terminal_number, feasible}
use Rattle.reach.specs.Greedy.{walk_word}
use Rattle.reach.proofs.Whole.{walk-pins}
use Rattle.rules.specs.Sides.{SideRules}
use Rattle.letters.specs.declared.Progress.{Progress}
use Rattle.letters.specs.Walking.{whole_walk}
use Rattle.least_column.specs.LeastColumn.{allowed_to, next_column, with_letter, top_next, bottom_next, both_next, least_bottoms, least_tops, least_column, by_order, order_choice, order_walk_from, order_walk, NoneBinds}
use Rattle.least_column.proofs.Walk.{walk_by_order}
use Rattle.least.specs.Least.{set_at, top_last, bottom_last, both_last, least_from, bottoms_least, tops_least, least_in}
use Rattle.order_walk.specs.OrderWalk.{rest_fits, top_fits, bottom_fits, order_choice_in}
use Rattle.agreement.specs.Ready.{Numbered, OrderReady}
use Rattle.agreement.proofs.Letters.{ranks}
use Rattle.agreement.proofs.Written.{Spells, behind-letter, first-pin, before-few, spelt_columns}

-- the columns of a pin's set as a word
set-column :
    {side : ℕ} {ts : List Terminal} {rules : List ℕ} → SideRules side ts rules → Numbered ts → (i c : ℕ) → 1 ≤ i → i ≤ length ts
    → 1 ≤ c → c ≤ 64 → bit_of (set_at rules side i) (c - 1) ≡ allowed_to ts i c
set-column {side} {ts} {rules} r numbered i c h l g k =
    bit_shl (allowed_at rules side i) (i - 1) (c - 1) (omega arith) ∙ by-test (leb (i - 1) (c - 1)) refl
  where
    by-test : (t : Bool) → leb (i - 1) (c - 1) ≡ t → (t && bit_of (allowed_at rules side i) (c - 1 - (i - 1))) ≡ allowed_to ts i c
    by-test true e =
        let less : i - 1 ≤ c - 1 = leb-true (i - 1) (c - 1) e in
        r.allowed i (c - 1 - (i - 1)) h l ∙ ap (allows (terminal_number ts i).allowed) (omega arith)
    by-test false e = sym (numbered i c h (omega (arith, leb-false (i - 1) (c - 1) e)))

-- the next column goes by the columns of the channel
next-same : (l : ℕ) (f g : ℕ → Bool) (m : ℕ) → ((k : ℕ) → 1 ≤ k → k ≤ l → f k ≡ g k) → next_column l f m ≡ next_column l g m
unfolding next_column
next-same zero f g m same = refl
next-same (suc l) f g m same =
    rw (same (suc l) (omega arith) (omega arith), next-same l f g m (λ k h n. same k h (omega arith))) refl

-- a pin of a side alone, where one is left
one_pin :
    (i : ℕ) (l m a b r t : Bool) → (1 ≤ i → (l ≡ m) × (a ≡ b) × (r ≡ t))
    → (ltb 0 i && (l && (a && r))) ≡ (m && ((not (eqb i 0) && b) && t))
one_pin zero l m a b r t same = sym (and-false m)
one_pin (suc i) l m a b r t same =
    let (e, f, g) = same (omega arith) in
    rw (lt-ltb 0 (suc i) (omega arith), ne_eqb (suc i) 0 (omega arith), e, f, g) refl

module _ (s : Sheet) (rules loads : List ℕ) (ready : OrderReady s rules loads) (d : ℕ) where
  small : s.columns ≤ 64
  small = ready.sound.columns.1

  abbrev p : ℕ
  p = length s.top

  abbrev q : ℕ
  q = length s.bottom

  -- one letter
  module _ (i j m : ℕ) (few : i ≤ p) (fewer : j ≤ q) where
    top-same : 1 ≤ i → top_last rules loads s.columns d i j m ≡ top_next s d i j m
    unfolding with_letter
    top-same h =
        rw (ready.cuts.top i j h few fewer)
        (ap (λ (n : ℕ). cond (leb (load s top i j) d) n (suc s.columns))
        (next-same s.columns _ _ m (λ k g n. set-column ready.top ready.top_numbered i k h few g (omega (arith, small)))))

    bottom-same : 1 ≤ j → bottom_last rules loads s.columns d i j m ≡ bottom_next s d i j m
    unfolding with_letter
    bottom-same h =
        rw (ready.cuts.bottom i j few h fewer)
        (ap (λ (n : ℕ). cond (leb (load s bottom i j) d) n (suc s.columns))
        (next-same s.columns _ _ m (λ k g n. set-column ready.bottom ready.bottom_numbered j k h fewer g (omega (arith, small)))))

    both-same : 1 ≤ i → 1 ≤ j → both_last rules loads s.columns d i j m ≡ both_next s d i j m
    unfolding with_letter
    both-same h l =
        rw (ready.cuts.both i j h few l fewer)
        (ap (λ (n : ℕ). cond (leb (load s both i j) d) n (suc s.columns))
        (next-same s.columns _ _ m
        (λ k g n.
        bit_of-bit_and (set_at rules 0 i) (set_at rules 1 j) (k - 1)
        ∙ ap₂ (λ (a b : Bool). a && b) (set-column ready.top ready.top_numbered i k h few g (omega (arith, small)))
        (set-column ready.bottom ready.bottom_numbered j k l fewer g (omega (arith, small))))))

  -- so the least columns are the model's
  pub least-same : (i j : ℕ) → i ≤ p → j ≤ q → least_in rules loads s.columns d i j ≡ least_column s d i j
  unfolding least_in bottoms_least tops_least least_from least_column least_bottoms least_tops
  least-same zero zero h g = refl
  least-same zero (suc j) h g =
      rw (ne_eqb (suc j) 0 (omega arith), least-same zero j h (omega arith)) (bottom-same 0 (suc j) _ h g (omega arith))
  least-same (suc i) zero h g =
      rw (ne_eqb (suc i) 0 (omega arith), least-same i zero (omega arith) g) (top-same (suc i) 0 _ h g (omega arith))
  least-same (suc i) (suc j) h g =
      rw (
        ne_eqb (suc i) 0 (omega arith),
        ne_eqb (suc j) 0 (omega arith),
        least-same i (suc j) (omega arith) g,
        least-same (suc i) j h (omega arith),
        least-same i j (omega arith) (omega arith),
      )
      (ap₂ min (top-same (suc i) (suc j) _ h g (omega arith))
      (ap₂ min (bottom-same (suc i) (suc j) _ h g (omega arith)) (both-same (suc i) (suc j) _ h g (omega arith) (omega arith))))

  -- the walk in column c + 1
  module _ (c i j x y : ℕ) (inside : suc c ≤ s.columns) (few : i ≤ p) (fewer : j ≤ q) where
    abbrev mark : Progress
    mark = record { c = suc c; i = i; j = j; top = x; bottom = y }

    rest-same : (k n : ℕ) → k ≤ p → n ≤ q → rest_fits rules loads s.columns d mark k n ≡ leb (least_column s d k n) c
    rest-same k n h g = rw (sub-one (suc c), least-same k n h g) refl

    empty-same : rest_fits rules loads s.columns d mark i j ≡ by_order s d c i j empty
    unfolding by_order
    empty-same = rest-same i j few fewer

    top-fits : top_fits rules loads s.columns d mark ≡ by_order s d c i j top
    unfolding by_order
    top-fits =
        one_pin i _ _ _ _ _ _
        (λ h. (
          ap (λ (n : ℕ). leb n d) (ready.cuts.top i j h few fewer),
          set-column ready.top ready.top_numbered i (suc c) h few (omega arith) (omega (arith, small)),
          rest-same (i - 1) j (omega arith) fewer ∙ rw sub-one refl,
        ))

    bottom-fits : bottom_fits rules loads s.columns d mark ≡ by_order s d c i j bottom
    unfolding by_order
    bottom-fits =
        one_pin j _ _ _ _ _ _
        (λ h. (
          ap (λ (n : ℕ). leb n d) (ready.cuts.bottom i j few h fewer),
          set-column ready.bottom ready.bottom_numbered j (suc c) h fewer (omega arith) (omega (arith, small)),
          rest-same i (j - 1) few (omega arith) ∙ rw sub-one refl,
        ))

    -- so the letter is the model's
    pub order-choice : order_choice_in rules loads s.columns d mark ≡ rank (order_choice s d c i j)
    unfolding order_choice_in order_choice
    order-choice =
        rw (empty-same, top-fits, bottom-fits) (ranks (by_order s d c i j empty) (by_order s d c i j top) (by_order s d c i j bottom))

  -- from c columns on its choices spell the model's word
  spells-order :
      (c i j x y : ℕ) → c ≤ s.columns → i ≤ p → j ≤ q → count has_top (order_walk_from s d c i j) ≡ i
      → count has_bottom (order_walk_from s d c i j) ≡ j
      → Spells (order_choice_in rules loads s.columns d) (record { c = c; i = i; j = j; top = x; bottom = y }) (order_walk_from s d c i j)
  unfolding order_walk_from
  spells-order zero i j x y inside few fewer ts bs = tt
  spells-order (suc c) i j x y inside few fewer ts bs =
      let a : Letter = order_choice s d c i j in
      let (t, tops) = first-pin (has_top a) _ i ts in
      let (b, bottoms) = first-pin (has_bottom a) _ j bs in (
        order-choice c i j x y inside few fewer,
        rw (behind-letter c i j x y a t b)
            (spells-order c _ _ _ _ (omega arith) (before-few (has_top a) i p few) (before-few (has_bottom a) j q fewer) tops bottoms),
      )

  -- so where no distance binds, and all pins can be placed, it writes the columns of the model's word, and leaves what stands behind them
  pub ordered_columns :
      NoneBinds s.top → NoneBinds s.bottom → feasible s d ≡ true → (l p q : ℕ) → l ≡ s.columns → p ≡ length s.top
      → q ≡ length s.bottom → (columns : List ℕ) → p + q ≤ length columns
      → whole_walk (order_choice_in rules loads l d) l p q columns ≡ columns_of (order_walk s d) ++ drop (p + q) columns
  unfolding order_walk
  ordered_columns free_top free_bottom f l p q el ep eq columns room =
      let (size, tops, bottoms, all) = walk-pins s d f in
      let same : walk_word s d ≡ order_walk s d = walk_by_order s free_top free_bottom d f in
      rw (el, ep, eq)
      (spelt_columns (order_choice_in rules loads s.columns d) (order_walk s d) s.columns (length s.top) (length s.bottom) columns
      (rw same at size) (rw same at tops) (rw same at bottoms) (rw (ep, eq) at room)
      (spells-order s.columns (length s.top) (length s.bottom) 0 0 (le_refl _) (le_refl _) (le_refl _) (rw same at tops) (rw same at bottoms)))
