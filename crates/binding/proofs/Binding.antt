-- Laws of the ends of sets: what the window of two words says of the distances that they leave, and what that says of each two numbers.
-- Assumes nothing.
use Rattle.std.proofs.Common.{ℕ, zero, suc, ◌+◌, ◌-◌, ◌/◌, ◌%◌, ◌^◌, ◌≤◌, ◌<◌, ◌≡◌, refl, sym, ◌∙◌, ap, List, Bool, true, false, not, ◌&&◌, arith, eqb, eqb-true, le-leb, lt-ltb}
use Rattle.std.proofs.lemmas.Bool.{eqb-false, true≢false}
use Rattle.std.proofs.lemmas.Nat.{leading_le}
use Rattle.std.specs.Int.Count.{count_leading_zeros, count_trailing_zeros}
use Rattle.channel.specs.Below.{any_below}
use Rattle.channel.proofs.Below.{any_below-from}
use Rattle.arrays.specs.Rules.{range_at, allowed_at}
use Rattle.bits.specs.Bits.{bit_of, in_word}
use Rattle.bits.proofs.Laws.{bit_zero, bit-first, bit_shr, word_none, word-from}
use Rattle.binding.specs.Binding.{low_of, end_of, left_by, out_of_range, none_binds}

-- two words of m bits that hold the same numbers are the same
words_same : (m w v : ℕ) → w < 2 ^ m → v < 2 ^ m → ((k : ℕ) → k < m → bit_of w k ≡ bit_of v k) → w ≡ v
words_same zero w v h g same = omega arith
words_same (suc m) w v h g same =
    let rest : w / 2 ≡ v / 2 =
    words_same m (w / 2) (v / 2) (omega arith) (omega arith)
    (λ k l. bit_shr w 1 k ∙ same (1 + k) (omega arith) ∙ sym (bit_shr v 1 k)) in
    let last : eqb (w % 2) 1 ≡ eqb (v % 2) 1 = sym (bit-first w) ∙ same 0 (omega arith) ∙ bit-first v in
    by-test (eqb (w % 2) 1) refl (sym last) rest
  where
    by-test : (t : Bool) → eqb (w % 2) 1 ≡ t → eqb (v % 2) 1 ≡ eqb (w % 2) 1 → w / 2 ≡ v / 2 → w ≡ v
    by-test true e f rest = omega (arith, eqb-true (w % 2) 1 e, eqb-true (v % 2) 1 (f ∙ e), rest)
    by-test false e f rest = omega (arith, eqb-false (w % 2) 1 e, eqb-false (v % 2) 1 (f ∙ e), rest)

-- the distances that the ends leave as a word w, and v those of them in the range
pub window_says :
    (set next range w v : ℕ) → w < 2 ^ 64 → v < 2 ^ 64 → ((k : ℕ) → k < 64 → bit_of w k ≡ left_by set next k)
    → ((k : ℕ) → bit_of v k ≡ (bit_of w k && bit_of range k)) → not (eqb v w) ≡ out_of_range set next range
unfolding out_of_range
window_says set next range w v hw hv left within = by-test (eqb v w) refl
  where
    out : ℕ → Bool
    out e = left_by set next e && not (bit_of range e)

    inside : (a b : Bool) → a ≡ (a && b) → (a && not b) ≡ false
    inside true true e = refl
    inside true false e = e
    inside false b e = refl

    outside : (a b : Bool) → (a && not b) ≡ false → (a && b) ≡ a
    outside true true e = refl
    outside true false e = sym e
    outside false b e = refl

    none_out : v ≡ w → in_word out ≡ false
    none_out e =
        word_none out
        (λ k l. inside (left_by set next k) (bit_of range k) (rw (← left k l) (ap (λ (n : ℕ). bit_of n k) (sym e) ∙ within k)))

    same_word : in_word out ≡ false → v ≡ w
    same_word e =
        words_same 64 v w hv hw
        (λ k l. within k ∙ outside (bit_of w k) (bit_of range k) (rw (left k l) (no_out k l e (out k) refl)))
      where
        no_out : (k : ℕ) → k < 64 → in_word out ≡ false → (t : Bool) → out k ≡ t → out k ≡ false
        no_out k l e true m = absurd (true≢false (sym (word-from out k l m) ∙ e))
        no_out k l e false m = m

    by-test : (t : Bool) → eqb v w ≡ t → not t ≡ in_word out
    by-test true e = sym (none_out (eqb-true v w e))
    by-test false e = some (in_word out) refl
      where
        some : (t : Bool) → in_word out ≡ t → true ≡ t
        some true m = refl
        some false m = absurd (eqb-false v w e (same_word m))

-- no number of a set lies beyond its ends
low_least : (m w x : ℕ) → x < m → bit_of w x ≡ true → count_trailing_zeros m w ≤ x
unfolding count_trailing_zeros
low_least zero w x h e = omega arith
low_least (suc m) w zero h e = rw (eqb-true (w % 2) 1 (sym (bit-first w) ∙ e)) (omega arith)
low_least (suc m) w (suc x) h e =
    by-test (eqb (w % 2) 1) refl (low_least m (w / 2) x (omega arith) (bit_shr w 1 x ∙ ap (bit_of w) (omega arith) ∙ e))
  where
    by-test : (t : Bool) → eqb (w % 2) 1 ≡ t → count_trailing_zeros m (w / 2) ≤ x → count_trailing_zeros (suc m) w ≤ suc x
    by-test true t less = rw (eqb-true (w % 2) 1 t) (omega arith)
    by-test false t less =
        let even : w % 2 ≡ 0 = omega (arith, eqb-false (w % 2) 1 t) in
        rw even (omega arith)

end_above : (m w x : ℕ) → x < m → bit_of w x ≡ true → count_leading_zeros m w + x < m
unfolding count_leading_zeros
end_above zero w x h e = absurd (omega arith)
end_above (suc m) zero x h e = absurd (true≢false (sym e ∙ bit_zero x))
end_above (suc m) (suc w) zero h e = omega (arith, leading_le m (suc w / 2))
end_above (suc m) (suc w) (suc x) h e =
    omega (arith, end_above m (suc w / 2) x (omega arith) (bit_shr (suc w) 1 x ∙ ap (bit_of (suc w)) (omega arith) ∙ e))

-- so each two numbers leave their difference
left_between :
    (set next x y : ℕ) → x < 64 → y < 64 → bit_of set x ≡ true → bit_of next y ≡ true → x ≤ y → left_by set next (y - x) ≡ true
left_between set next x y hx hy ex ey h =
    let low : low_of set ≤ x = low_least 64 set x hx ex in
    let next_low : low_of next ≤ y = low_least 64 next y hy ey in
    let high = end_above 64 set x hx ex in
    let next_high = end_above 64 next y hy ey in
    rw (le-leb (low_of next + 1 - end_of set) (y - x) (omega arith)) (lt-ltb (y - x) (end_of next - low_of set) (omega arith))

-- and where none of those is out of the range, that is in it
in_range_lem :
    (set next range x y : ℕ) → out_of_range set next range ≡ false → x < 64 → y < 64 → bit_of set x ≡ true → bit_of next y ≡ true → x ≤ y
    → bit_of range (y - x) ≡ true
unfolding out_of_range
in_range_lem set next range x y e hx hy ex ey h = by-test (bit_of range (y - x)) refl
  where
    by-test : (t : Bool) → bit_of range (y - x) ≡ t → t ≡ true
    by-test true m = refl
    by-test false m =
        absurd (true≢false
        (sym (word-from (λ (k : ℕ). left_by set next k && not (bit_of range k)) (y - x) (omega arith)
        (rw (left_between set next x y hx hy ex ey h, m)))
        ∙ e))

-- so it is for each two pins of a side that follow each other
module _ (rules : List ℕ) (side : ℕ) where
  abbrev pub pair_out : ℕ → Bool
  pair_out k = out_of_range (allowed_at rules side (k + 1)) (allowed_at rules side (k + 2)) (range_at rules side (k + 2))

  -- one pair of which some is out, and none of all
  pub some_out :
      (n i : ℕ) → 1 ≤ i → i < n
      → out_of_range (allowed_at rules side i) (allowed_at rules side (i + 1)) (range_at rules side (i + 1)) ≡ true
      → false ≡ none_binds rules side n
  unfolding none_binds
  some_out n i h l e =
      let one : i - 1 + 1 ≡ i = omega arith in
      let two : i - 1 + 2 ≡ i + 1 = omega arith in
      ap not (sym (any_below-from (n - 1) pair_out (i - 1) (omega arith) (rw (one, two) e)))

  pub none_out : (n i : ℕ) → i - 1 ≡ n - 1 → any_below (i - 1) pair_out ≡ false → true ≡ none_binds rules side n
  unfolding none_binds
  none_out n i same e = ap not (sym e ∙ ap (λ (m : ℕ). any_below m pair_out) same)

  pub none_binds_says :
      (n : ℕ) → none_binds rules side n ≡ true → (i x y : ℕ) → suc i < n → x < 64 → y < 64 → bit_of (allowed_at rules side (suc i)) x ≡ true
      → bit_of (allowed_at rules side (suc (suc i))) y ≡ true → x ≤ y → bit_of (range_at rules side (suc (suc i))) (y - x) ≡ true
  unfolding none_binds
  none_binds_says n e i x y h hx hy ex ey l =
      let one : i + 1 ≡ suc i = omega arith in
      let two : i + 2 ≡ suc (suc i) = omega arith in
      in_range_lem (allowed_at rules side (suc i)) (allowed_at rules side (suc (suc i))) (range_at rules side (suc (suc i))) x y
      (rw (one, two) at (in_reach (pair_out i) refl)) hx hy ex ey l
    where
      in_reach : (t : Bool) → pair_out i ≡ t → pair_out i ≡ false
      in_reach true m = absurd (true≢false (sym e ∙ ap not (any_below-from (n - 1) pair_out i (omega arith) m)))
      in_reach false m = m
