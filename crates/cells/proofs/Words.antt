-- Words in cells: what is put in is read back, and other words and cells stay.
-- Assumes nothing.
use Rattle.std.proofs.Common.{ℕ, ◌+◌, ◌*◌, ◌/◌, ◌%◌, ◌^◌, ◌≤◌, ◌<◌, ◌≡◌, ◌∙◌, List, ◌⊎◌, inl, inr, ◌≢◌, arith, length, get_or, set, drop, length-set, get_or-set_same, get_or-set_other, drop-set-lt}
use Rattle.cells.specs.Cells.{word_at, put_word}

pub length-put : (cells : List ℕ) (at w : ℕ) → length (put_word cells at w) ≡ length cells
unfolding put_word
length-put cells at w = simp length-set

-- what stands behind the four cells stays
pub drop-put : (cells : List ℕ) (at w n : ℕ) → at + 4 ≤ n → drop n (put_word cells at w) ≡ drop n cells
unfolding put_word
drop-put cells at w n h =
    drop-set-lt n _ (at + 3) _ (omega arith)
    ∙ drop-set-lt n _ (at + 2) _ (omega arith)
    ∙ drop-set-lt n _ (at + 1) _ (omega arith)
    ∙ drop-set-lt n cells at _ (omega arith)

-- a cell that is none of the four stays
pub cell-put : (cells : List ℕ) (at w k : ℕ) → (k < at) ⊎ (at + 4 ≤ k) → get_or (put_word cells at w) k 0 ≡ get_or cells k 0
unfolding put_word
cell-put cells at w k h =
    let a : k ≢ at = away at (omega arith) h in
    let b : k ≢ at + 1 = away (at + 1) (omega arith) h in
    let c : k ≢ at + 2 = away (at + 2) (omega arith) h in
    let d : k ≢ at + 3 = away (at + 3) (omega arith) h in
    rw (get_or-set_other, get_or-set_other, get_or-set_other, get_or-set_other)
  where
    away : (m : ℕ) → (at ≤ m) × (m < at + 4) → (k < at) ⊎ (at + 4 ≤ k) → k ≢ m
    away m l (inl g) e = omega arith
    away m l (inr g) e = omega arith

-- and so does a word of such cells
pub word-put_other : (cells : List ℕ) (at w b : ℕ) → (b + 4 ≤ at) ⊎ (at + 4 ≤ b) → word_at (put_word cells at w) b ≡ word_at cells b
unfolding word_at
word-put_other cells at w b h =
    join (stays b (omega arith) h) (stays (b + 1) (omega arith) h) (stays (b + 2) (omega arith) h) (stays (b + 3) (omega arith) h)
  where
    stays : (k : ℕ) → (b ≤ k) × (k < b + 4) → (b + 4 ≤ at) ⊎ (at + 4 ≤ b) → get_or (put_word cells at w) k 0 ≡ get_or cells k 0
    stays k l (inl g) = cell-put cells at w k (inl (omega arith))
    stays k l (inr g) = cell-put cells at w k (inr (omega arith))

    join : {x y z u x' y' z' u' : ℕ} → x ≡ x' → y ≡ y' → z ≡ z' → u ≡ u'
        → x + 65536 * (y + 65536 * (z + 65536 * u)) ≡ x' + 65536 * (y' + 65536 * (z' + 65536 * u'))
    join p q r t = omega arith

-- four cells put in are read back
four :
    (l : List ℕ) (at a b c d : ℕ) → at + 4 ≤ length l
    → let m : List ℕ = set (set (set (set l at a) (at + 1) b) (at + 2) c) (at + 3) d in
    (get_or m at 0 ≡ a) × (get_or m (at + 1) 0 ≡ b) × (get_or m (at + 2) 0 ≡ c) × (get_or m (at + 3) 0 ≡ d)
four l at a b c d h =
    let r₀ : at < length l = omega arith in
    let r₁ : at + 1 < length l = omega arith in
    let r₂ : at + 2 < length l = omega arith in
    let r₃ : at + 3 < length l = omega arith in
    let n₀₁ : at ≢ at + 1 = λ e. omega arith in
    let n₀₂ : at ≢ at + 2 = λ e. omega arith in
    let n₀₃ : at ≢ at + 3 = λ e. omega arith in
    let n₁₂ : at + 1 ≢ at + 2 = λ e. omega arith in
    let n₁₃ : at + 1 ≢ at + 3 = λ e. omega arith in
    let n₂₃ : at + 2 ≢ at + 3 = λ e. omega arith in (
      rw (get_or-set_other, get_or-set_other, get_or-set_other, get_or-set_same),
      rw (get_or-set_other, get_or-set_other, get_or-set_same (set l at a) (at + 1) b 0 (simp length-set r₁)),
      rw (get_or-set_other, get_or-set_same (set (set l at a) (at + 1) b) (at + 2) c 0 (simp length-set r₂)),
      get_or-set_same (set (set (set l at a) (at + 1) b) (at + 2) c) (at + 3) d 0 (simp length-set r₃),
    )

-- a word of 64 bits is read back
pub word-put_same : (cells : List ℕ) (at w : ℕ) → at + 4 ≤ length cells → w < 2 ^ 64 → word_at (put_word cells at w) at ≡ w
unfolding word_at put_word
word-put_same cells at w h g =
    let (a, b, c, d) = four cells at (w % 65536) (w / 65536 % 65536) (w / 65536 / 65536 % 65536) (w / 65536 / 65536 / 65536 % 65536) h in
    rw (a, b, c, d) (omega arith)
