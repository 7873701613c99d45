-- Laws of the planes that hold nothing, and the flags of a row of planes that the code keeps.
-- Assumes nothing.
use Rattle.std.proofs.Common.{ℕ, suc, ◌+◌, ◌-◌, ◌≤◌, ◌<◌, ◌≡◌, refl, sym, ◌∙◌, ap, List, Bool, true, false, ◌&&◌, ◌||◌, arith, length, get_or, set, length-set, get_or-set_same, get_or-set_other, eqb, eqb-true, true≢false, ◌≢◌}
use Rattle.std.proofs.Math.Bool.{and-false}
use Rattle.std.proofs.lemmas.Bool.{eqb-false}
use Rattle.channel.proofs.Below.{any_below-none}
use Rattle.bits.specs.Bits.{bit_of}
use Rattle.bits.proofs.Laws.{bit_zero}
use Rattle.arrays.specs.Rules.{range_at}
use Rattle.entry.specs.declared.Grid.{Grid}
use Rattle.entry.specs.Columns.{Union, Holds, United}
use Rattle.table.specs.United.{Zeros}
use Rattle.entry.specs.Entry.{cell}
use Rattle.entry.proofs.Table.{none_before}
use Rattle.table.specs.Empty.{Empty, Told}

module _ (rules loads : List ℕ) (bound : ℕ) (g : Grid) (i j : ℕ) where
  -- flags of one top pin less that become those of i: they have become them up to j, and are as they were from j on; `before` and
  -- `corner` are those left of j, of the new row and of the old
  pub record Flags (flags : List Bool) (before corner : Bool) : Type 0 where
    pub kept : length flags ≡ 65
    pub passed : (k : ℕ) → k < j → get_or flags k false ≡ false → Empty rules loads bound g i k
    pub ahead : 0 < i → (k : ℕ) → j ≤ k → k < g.across → get_or flags k false ≡ false → Empty rules loads bound g (i - 1) k
    pub left : before ≡ false → (i + j ≡ 0 → ⊥) × (0 < j → Empty rules loads bound g i (j - 1))
    pub left_above : corner ≡ false → 0 < i → 0 < j → Empty rules loads bound g (i - 1) (j - 1)

  -- a plane made from empty planes alone
  pub plane_empty :
      (i + j ≡ 0 → ⊥) → (0 < i → Empty rules loads bound g (i - 1) j) → (0 < j → Empty rules loads bound g i (j - 1))
      → (0 < i → 0 < j → Empty rules loads bound g (i - 1) (j - 1)) → Empty rules loads bound g i j
  plane_empty some above before corner x y hx hy =
      none_before rules loads bound i j some x y (λ p n l. above p n y (omega arith) hy) (λ p m l. before p x m hx (omega arith))
      (λ p q n m l k. corner p q n m (omega arith) (omega arith))

  -- and by what the flags tell
  pub none_told :
      (flags : List Bool) (before corner : Bool) → j < g.across → Flags flags before corner → get_or flags j false ≡ false
      → before ≡ false → corner ≡ false → Empty rules loads bound g i j
  none_told flags before corner few f above left diagonal =
      plane_empty (f.left left).0 (λ p. f.ahead p j (omega arith) few above) (f.left left).1 (f.left_above diagonal)

module _ (rules loads : List ℕ) (bound : ℕ) (g : Grid) (i : ℕ) where
  -- at the start no flag is of i
  pub flags_none : (flags : List Bool) → length flags ≡ 65 → (0 < i → Told rules loads bound g (i - 1) flags) → Flags rules loads bound g i 0 flags (eqb i 0) false
  flags_none flags long told =
      record {
        kept = long;
        passed = λ k l. absurd (omega arith);
        ahead = λ p k l. told p k;
        left = λ e. (λ z. eqb-false i 0 e (omega arith), λ l. absurd (omega arith));
        left_above = λ e p l. absurd (omega arith);
      }

  -- one flag more
  pub flags_more :
      (j : ℕ) (flags : List Bool) (before corner next : Bool) → j < length flags → j < g.across
      → (next ≡ false → Empty rules loads bound g i j) → Flags rules loads bound g i j flags before corner
      → Flags rules loads bound g i (j + 1) (set flags j next) next (get_or flags j false)
  flags_more j flags before corner next room few told f =
      record {
        kept = length-set flags j next ∙ f.kept;
        passed = λ k l e. by-test k l (eqb k j) refl e;
        ahead = λ p k l hk e. f.ahead p k (omega arith) hk (sym (get_or-set_other flags j k next false (omega arith)) ∙ e);
        left = λ e. (λ z. omega arith, λ l. rw here (told e));
        left_above = λ e p l. rw here (f.ahead p j (omega arith) few e);
      }
    where
      here : j + 1 - 1 ≡ j
      here = omega arith

      by-test : (k : ℕ) → k < j + 1 → (t : Bool) → eqb k j ≡ t → get_or (set flags j next) k false ≡ false → Empty rules loads bound g i k
      by-test k l true q e =
          let same : k ≡ j = eqb-true k j q in
          rw same (told (sym (get_or-set_same flags j next false room) ∙ (rw same at e)))
      by-test k l false q e =
          let other : k ≢ j = eqb-false k j q in
          f.passed k (omega arith) (sym (get_or-set_other flags j k next false other) ∙ e)

module _ (rules loads : List ℕ) (bound i j : ℕ) where
  -- one row more in which nothing stands but what is in `all`
  pub empty_more :
      (x w all more : ℕ) → Holds x (cell rules loads bound i j) w → ((n : ℕ) → bit_of more n ≡ (bit_of w n || bit_of all n))
      → ((n y : ℕ) → n < x → y < 64 → bit_of all y ≡ false → cell rules loads bound i j n y ≡ false)
      → (n y : ℕ) → n < x + 1 → y < 64 → bit_of more y ≡ false → cell rules loads bound i j n y ≡ false
  empty_more x w all more holds joined empty n y hn hy e = by_row (eqb n x) refl
    where
      parts : (a b : Bool) → (a || b) ≡ false → (a ≡ false) × (b ≡ false)
      parts true b q = absurd (true≢false q)
      parts false b q = (refl, q)

      neither : (bit_of w y ≡ false) × (bit_of all y ≡ false)
      neither = parts (bit_of w y) (bit_of all y) (sym (joined y) ∙ e)

      by_row : (t : Bool) → eqb n x ≡ t → cell rules loads bound i j n y ≡ false
      by_row true q = let same : n ≡ x = eqb-true n x q in rw same (sym (holds y hy) ∙ neither.0)
      by_row false q = empty n y (omega (arith, eqb-false n x q)) hy neither.1

-- no step leads from an empty plane
union_empty :
    (by x w : ℕ) (f : ℕ → ℕ → Bool) → w ≡ 0 → ((n y : ℕ) → n ≤ x → y < 64 → f n y ≡ false) → Union by x f w
union_empty by x w f none empty y hy =
    ap (λ (v : ℕ). bit_of v y) none
    ∙ bit_zero y
    ∙ sym (any_below-none (suc x) (λ (n : ℕ). bit_of by (x - n) && f n y) (λ n l. rw (empty n y (omega arith) hy) (and-false (bit_of by (x - n)))))

-- so that no union of one has anything
pub united_empty :
    (rules loads : List ℕ) (bound : ℕ) (g : Grid) (i j : ℕ) (words : List ℕ) → g.rows ≤ 64 → (0 < i → Empty rules loads bound g (i - 1) j)
    → Zeros g words → (x : ℕ) → x < g.rows → United rules loads bound i j x (get_or words x 0)
united_empty rules loads bound g i j words few empty none x h p =
    union_empty (range_at rules 0 i) x (get_or words x 0) (cell rules loads bound (i - 1) j) (none x h)
    (λ n y l hy. empty p n y (omega arith) hy)
