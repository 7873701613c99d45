-- A number in n bytes is the word that begins with them and has 0 in its bytes above.
-- Assumes nothing.
use Rattle.std.proofs.Common.{◌≡◌, ℕ, zero, suc, ◌+◌, ◌-◌, ◌*◌, ◌^◌, ◌<◌, ◌≤◌, List, [], ◌∷◌, ◌++◌, length, get_or, take, drop, replicate, refl, ap, ◌∙◌, zero-add, one-add, arith, pow-suc, pow-add, length-take, length-drop}
use Rattle.std.proofs.lemmas.List.{get_or-take, get_or-drop, drop-replicate}
use Rattle.little.specs.Little.{little}
use Rattle.little.proofs.Laws.{same-bytes}

-- zeros make 0
little-zeros : (n m i : ℕ) → little n (replicate {A = ℕ} m 0) i ≡ 0
unfolding little
little-zeros zero m i = refl
little-zeros (suc n) m i = omega (arith, little-zeros n m (suc i), zero-at m i)
  where
    zero-at : (m i : ℕ) → get_or (replicate {A = ℕ} m 0) i 0 ≡ 0
    zero-at zero i = refl
    zero-at (suc m) zero = refl
    zero-at (suc m) (suc i) = zero-at m i

-- zeros behind the bytes change nothing
little-padded : (bs : List ℕ) (m n : ℕ) → n ≡ length bs + m → little n (bs ++ replicate {A = ℕ} m 0) 0 ≡ little (length bs) bs 0
unfolding little
little-padded [] m n e = little-zeros n m 0
little-padded (x ∷ bs) m zero e = absurd (omega arith)
little-padded (x ∷ bs) m (suc n) e =
    let whole = behind n (bs ++ replicate {A = ℕ} m 0) in
    let part = behind (length bs) bs in
    omega (arith, whole, part, little-padded bs m n (omega arith))
  where
    behind : (n : ℕ) (xs : List ℕ) → little n (x ∷ xs) 1 ≡ little n xs 0
    behind n xs = same-bytes n (x ∷ xs) xs 1 0 (λ j l. rw (zero-add j, one-add j) refl)

-- the word of the n bytes from a place on
pub little-word :
    (n at : ℕ) (b : List ℕ) → at + n ≤ length b → n ≤ 8
    → little 8 (take n (drop at b) ++ drop n (replicate {A = ℕ} 8 0)) 0 ≡ little n b at
little-word n at b inside few =
    rw (drop-replicate {X = ℕ} n 8 0) (little-padded bytes (8 - n) 8 (omega (arith, size))) ∙ ap (λ (k : ℕ). little k bytes 0) size ∙ same-bytes n bytes b 0 at same
  where
    bytes : List ℕ
    bytes = take n (drop at b)

    size : length bytes ≡ n
    size = length-take n (drop at b) ∙ omega (arith, length-drop at b)

    same : (j : ℕ) → j < n → get_or bytes (0 + j) 0 ≡ get_or b (at + j) 0
    same j h = rw (zero-add j) (get_or-take n (drop at b) j 0 h ∙ get_or-drop at b j 0)

-- two ways to write how many numbers n bytes hold
pub pow-bytes : (n : ℕ) → 256 ^ n ≡ 2 ^ (8 * n)
pow-bytes zero = refl
pow-bytes (suc n) =
    let bits : 8 * suc n ≡ 8 * n + 8 = omega arith in
    rw (pow-suc 256 n, pow-bytes n, bits, pow-add 2 (8 * n) 8) refl
