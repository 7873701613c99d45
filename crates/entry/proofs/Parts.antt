-- The parts of a word: a step from a set that a function names, and the columns in which a pin stands.
-- Assumes nothing.
use Rattle.std.proofs.Common.{ℕ, suc, ◌-◌, ◌+◌, ◌/◌, ◌^◌, ◌≤◌, ◌<◌, ◌≡◌, refl, sym, ◌∙◌, ap, List, Bool, true, false, ◌&&◌, arith, ltb, leb, eqb, ltb-true, ltb-false, true≢false, eqb-true, eq-eqb, ne_eqb}
use Rattle.std.proofs.Math.Bool.{and-false, and_assoc, and_comm, and-eq-true_iff}
use Rattle.std.proofs.lemmas.Bool.{eqb-false}
use Rattle.channel.specs.Below.{any_below}
use Rattle.channel.proofs.Below.{any_below_cong, any_below-from, any_below-none}
use Rattle.arrays.specs.Rules.{range_at, allowed_at}
use Rattle.arrays.specs.Loads.{load_at}
use Rattle.bits.specs.Bits.{bit_of}
use Rattle.bits.proofs.Laws.{bit_zero, bit_shr, bit_high, some_bit}
use Rattle.steps.specs.Stepped.{stepped}
use Rattle.entry.specs.Entry.{both_part}
use Rattle.entry.specs.Columns.{Bottom, Pair, Turned, Union, Holds}

-- the steps of `by` from a set that f names
pub stepped-from :
    (w by y : ℕ) (f : ℕ → Bool) → y < 64 → ((m : ℕ) → m < 64 → bit_of w m ≡ f m)
    → stepped w by y ≡ any_below (suc y) (λ (m : ℕ). bit_of by (y - m) && f m)
unfolding stepped
stepped-from w by y f h same =
    any_below_cong (suc y) _ _ (λ m l. ap (λ (t : Bool). bit_of by (y - m) && t) (same m (omega arith)))

-- from no number
pub stepped_none : (w by y : ℕ) → w ≡ 0 → stepped w by y ≡ false
unfolding stepped
stepped_none w by y e =
    any_below-none (suc y) (λ (m : ℕ). bit_of by (y - m) && bit_of w m)
    (λ m l. rw (e, bit_zero m) (and-false (bit_of by (y - m))))

-- a bottom pin's steps within its columns
pub bottom_bits :
    (rules loads : List ℕ) (bound i j x y w by before : ℕ) (b : ℕ → ℕ → Bool) → y < 64 → Bottom rules loads bound i j w
    → (0 < j → by ≡ range_at rules 1 j) → (0 < j → Holds x b before)
    → (bit_of w y && stepped before by y)
    ≡ (ltb 0 j
    && (leb (load_at loads i j 1) bound
    && (bit_of (allowed_at rules 1 j) y && any_below (suc y) (λ (m : ℕ). bit_of (range_at rules 1 j) (y - m) && b x m))))
bottom_bits rules loads bound i j x y w by before b h columns range holds = rw (columns y) (by-test (ltb 0 j) refl)
  where
    by-test :
        (t : Bool) → ltb 0 j ≡ t
        → ((t && (leb (load_at loads i j 1) bound && bit_of (allowed_at rules 1 j) y)) && stepped before by y)
        ≡ (t
        && (leb (load_at loads i j 1) bound
        && (bit_of (allowed_at rules 1 j) y && any_below (suc y) (λ (m : ℕ). bit_of (range_at rules 1 j) (y - m) && b x m))))
    by-test true e =
        let one = ltb-true 0 j e in
        rw (range one, stepped-from before (range_at rules 1 j) y (b x) h (holds one))
        (and_assoc (leb (load_at loads i j 1) bound) (bit_of (allowed_at rules 1 j) y) _)
    by-test false e = refl

-- a pair in the one column that the top pin's row leaves it, where that is reached
pub pair_bits :
    (rules loads : List ℕ) (bound i j x y at w v by diagonal : ℕ) (d : ℕ → ℕ → Bool) (met : Bool) → at < 64
    → Pair rules loads bound i j w v → (0 < j → by ≡ range_at rules 1 j)
    → (0 < i → 0 < j → Union (range_at rules 0 i) x d diagonal) → at + j ≡ x + i → bit_of w x ≡ true → bit_of v at ≡ true
    → met ≡ stepped diagonal by at → (eqb y at && met) ≡ both_part rules loads bound i j d x y
pair_bits rules loads bound i j x y at w v by diagonal d met h columns range union place in_top in_bottom reached =
    let (tops, rest) = (and-eq-true_iff _ _).0 (sym (columns.0 x) ∙ in_top) in
    let (load, top) = (and-eq-true_iff _ _).0 rest in
    let (bottoms, bottom) = (and-eq-true_iff _ _).0 (sym (columns.1 at) ∙ in_bottom) in
    by-test tops load top bottoms bottom (eqb y at) refl
  where
    by-test :
        ltb 0 i ≡ true → leb (load_at loads i j 2) bound ≡ true → bit_of (allowed_at rules 0 i) x ≡ true → ltb 0 j ≡ true
        → bit_of (allowed_at rules 1 j) at ≡ true → (t : Bool) → eqb y at ≡ t → (t && met) ≡ both_part rules loads bound i j d x y
    by-test tops load top bottoms bottom true e =
        let one = ltb-true 0 i tops in
        let other = ltb-true 0 j bottoms in
        let column : eqb (at + j) (x + i) ≡ true = eq-eqb (at + j) (x + i) place in
        rw (eqb-true y at e, tops, bottoms, column, load, top, bottom, ← range other)
        (reached ∙ stepped-from diagonal by at _ h (union one other))
    by-test tops load top bottoms bottom false e =
        let column : eqb (y + j) (x + i) ≡ false = ne_eqb (y + j) (x + i) (λ q. eqb-false y at e (omega arith)) in
        rw (tops, bottoms, column) refl

-- the numbers from which y is reached are the steps from the other end, moved down
module _ (w by back y meet : ℕ) (room : y < 64) (turned : Turned by back) (bits : (m : ℕ) → bit_of meet m ≡ (bit_of w m && bit_of (back / 2 ^ (63 - y)) m)) where
  abbrev step : ℕ → Bool
  step m = bit_of by (y - m) && bit_of w m

  same_step : (m : ℕ) → m ≤ y → bit_of meet m ≡ step m
  same_step m l =
      bits m
      ∙ ap (λ (t : Bool). bit_of w m && t) (bit_shr back (63 - y) m ∙ turned (63 - y + m) (omega arith) ∙ ap (bit_of by) (omega arith))
      ∙ and_comm (bit_of w m) (bit_of by (y - m))

  pub meets_none : meet ≡ 0 → false ≡ stepped w by y
  unfolding stepped
  meets_none e =
      sym (any_below-none (suc y) step (λ m l. sym (same_step m (omega arith)) ∙ ap (λ (v : ℕ). bit_of v m) e ∙ bit_zero m))

  pub meets_some : back < 2 ^ 64 → meet < 2 ^ 64 → (meet ≡ 0 → ⊥) → true ≡ stepped w by y
  unfolding stepped
  meets_some small fits some =
      let (k, l, t) = some_bit meet fits some in
      let here = (and-eq-true_iff (bit_of w k) (bit_of (back / 2 ^ (63 - y)) k)).0 (sym (bits k) ∙ t) in
      by-test k t here.1 (ltb y k) refl
    where
      by-test : (k : ℕ) → bit_of meet k ≡ true → bit_of (back / 2 ^ (63 - y)) k ≡ true → (s : Bool) → ltb y k ≡ s → true ≡ any_below (suc y) step
      by-test k t here true q =
          let past = ltb-true y k q in
          absurd (true≢false (sym here ∙ bit_shr back (63 - y) k ∙ bit_high back 64 (63 - y + k) small (omega arith)))
      by-test k t here false q =
          let up = ltb-false y k q in sym (any_below-from (suc y) step k (omega arith) (sym (same_step k up) ∙ t))
