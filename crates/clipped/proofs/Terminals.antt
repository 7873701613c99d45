-- Laws of the terminals with the sets of a table: only the sets differ, and they are the table's.
-- Assumes nothing.
use Rattle.std.proofs.Common.{ℕ, zero, suc, ◌+◌, ◌-◌, ◌*◌, ◌^◌, ◌≤◌, ◌<◌, ◌≡◌, refl, ◌∙◌, ap, List, [], ◌∷◌, length, get_or, arith, ◌&&◌, leb}
use Rattle.channel.specs.Sheet.{Terminal, no_terminal, nets}
use Rattle.channel.specs.Assignment.{allows}
use Rattle.bits.specs.Bits.{bit_of}
use Rattle.bits.proofs.Laws.{bit_times}
use Rattle.arrays.specs.Rules.{allowed_at}
use Rattle.clipped.specs.Clipped.{with_word, with_words}

-- a set moved up by n names the columns from n + 1 on
pub allows_word : (w n c : ℕ) → allows (w * 2 ^ n) (suc c) ≡ (leb n c && bit_of w (c - n))
unfolding bit_of
allows_word w n c = bit_times w n c

module _ (side : ℕ) (rules : List ℕ) where
  pub length-with_words : (n : ℕ) (ts : List Terminal) → length (with_words side rules n ts) ≡ length ts
  length-with_words n [] = refl
  length-with_words n (t ∷ ts) = ap suc (length-with_words (suc n) ts)

  pub nets-with_words : (n : ℕ) (ts : List Terminal) → nets (with_words side rules n ts) ≡ nets ts
  nets-with_words n [] = refl
  nets-with_words n (t ∷ ts) = ap (λ (ns : List ℕ). t.net ∷ ns) (nets-with_words (suc n) ts)

  -- the terminal at a place
  pub with_words_at :
      (n : ℕ) (ts : List Terminal) (j : ℕ) → j < length ts
      → get_or (with_words side rules n ts) j no_terminal ≡ with_word side rules (n + j) (get_or ts j no_terminal)
  with_words_at n [] j l = absurd (omega arith)
  with_words_at n (t ∷ ts) zero l = ap (λ (k : ℕ). with_word side rules k t) (omega arith)
  with_words_at n (t ∷ ts) (suc j) l =
      with_words_at (suc n) ts j (omega arith) ∙ ap (λ (k : ℕ). with_word side rules k (get_or ts j no_terminal)) (omega arith)

-- where the sets are the same, so are the terminals
pub with_words_same :
    (side : ℕ) (a b : List ℕ) (n : ℕ) (ts : List Terminal)
    → ((i : ℕ) → 1 ≤ i → i ≤ n + length ts → allowed_at a side i ≡ allowed_at b side i) → with_words side a n ts ≡ with_words side b n ts
with_words_same side a b n [] same = refl
with_words_same side a b n (t ∷ ts) same =
    rw (same (suc n) (omega arith) (omega arith), with_words_same side a b (suc n) ts (λ i p l. same i p (omega arith)))
