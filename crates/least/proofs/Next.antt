-- The next column of a set, as its lowest bit from m on.
-- Assumes nothing.
use Rattle.std.proofs.Common.{ℕ, ◌+◌, ◌-◌, ◌*◌, ◌/◌, ◌%◌, ◌^◌, ◌≤◌, ◌<◌, ◌≡◌, refl, sym, ◌∙◌, ap, min, Bool, true, false, ◌&&◌, arith, ltb, le-leb, ltb-true, ltb-false}
use Rattle.std.proofs.lemmas.Bool.{false≢true, lt-leb}
use Rattle.bits.specs.Bits.{bit_of}
use Rattle.bits.proofs.Laws.{bit_shl, bit_shr}
use Rattle.least_column.specs.LeastColumn.{next_column}
use Rattle.least_column.proofs.Next.{next_case, next_low}
use Rattle.least.specs.Least.{next_in}

-- none above the channel's last column
pub next_none : (l set m : ℕ) → l ≤ m → l + 1 ≡ next_in l set m
next_none l set m h = next_case (λ (x : ℕ). l + 1 ≡ x) l _ m (omega arith) (λ k less more e. absurd (omega arith))

-- the bits of a set from m on
kept_from : (set m k : ℕ) → m ≤ k → k < 64 → bit_of (set / 2 ^ m * 2 ^ m % 2 ^ 64) k ≡ bit_of set k
kept_from set m k h g =
    bit_shl (set / 2 ^ m) m k g
    ∙ ap (λ (t : Bool). t && bit_of (set / 2 ^ m) (k - m)) (le-leb m k h)
    ∙ bit_shr set m (k - m)
    ∙ ap (bit_of set) (omega arith)

left_out : (set m k : ℕ) → k < m → k < 64 → bit_of (set / 2 ^ m * 2 ^ m % 2 ^ 64) k ≡ false
left_out set m k h g =
    bit_shl (set / 2 ^ m) m k g
    ∙ ap (λ (t : Bool). t && bit_of (set / 2 ^ m) (k - m)) (lt-leb m k h)

-- the lowest of them
module _ (l set m n : ℕ) (h : m < l) (g : l ≤ 64) (holds : n < 64 → bit_of (set / 2 ^ m * 2 ^ m % 2 ^ 64) n ≡ true)
    (none : (k : ℕ) → k < n → bit_of (set / 2 ^ m * 2 ^ m % 2 ^ 64) k ≡ false)
  where
    -- no column above m comes before it
    above : (k : ℕ) → m < k → k ≤ l → bit_of set (k - 1) ≡ true → n < k
    above k less more e = by-test (ltb (k - 1) n) refl
      where
        by-test : (t : Bool) → ltb (k - 1) n ≡ t → n < k
        by-test true t =
            absurd (false≢true (sym (none (k - 1) (ltb-true (k - 1) n t)) ∙ kept_from set m (k - 1) (omega arith) (omega arith) ∙ e))
        by-test false t = omega (arith, ltb-false (k - 1) n t)

    -- and it is above m
    right : n < 64 → m ≤ n
    right less = by-test (ltb n m) refl
      where
        by-test : (t : Bool) → ltb n m ≡ t → m ≤ n
        by-test true t = absurd (false≢true (sym (left_out set m n (ltb-true n m t) less) ∙ holds less))
        by-test false t = ltb-false n m t

    pub next_lowest : min n l + 1 ≡ next_in l set m
    next_lowest = by-test (ltb n l) refl
      where
        f : ℕ → Bool
        f c = bit_of set (c - 1)

        by-test : (t : Bool) → ltb n l ≡ t → min n l + 1 ≡ next_in l set m
        by-test true t =
            let less : n < l = ltb-true n l t in
            let here : f (n + 1) ≡ true =
            ap (bit_of set) (omega arith) ∙ sym (kept_from set m n (right (omega arith)) (omega arith)) ∙ holds (omega arith) in
            let low : next_column l f m ≤ n + 1 = next_low l f m (n + 1) (omega (arith, right (omega arith))) (omega arith) here in
            let high : n + 1 ≤ next_column l f m =
            next_case (λ (x : ℕ). n + 1 ≤ x) l f m (omega arith) (λ k a b e. let over : n < k = above k a b e in omega arith) in
            omega arith
        by-test false t =
            let past : l ≤ n = ltb-false n l t in
            next_case (λ (x : ℕ). min n l + 1 ≡ x) l f m (omega arith) (λ k a b e. let over : n < k = above k a b e in absurd (omega arith))
