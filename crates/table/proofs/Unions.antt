-- Laws of the loop that asks rows.
-- Assumes nothing.
use Rattle.std.proofs.Common.{ℕ, suc, ◌+◌, ◌^◌, ◌≤◌, ◌<◌, ◌≡◌, sym, ◌∙◌, ap, Bool, true, false, ◌&&◌, arith, add-one, leb, le-leb}
use Rattle.std.proofs.Math.Bool.{and-false}
use Rattle.std.proofs.lemmas.Bool.{lt-leb}
use Rattle.channel.specs.Below.{any_below}
use Rattle.channel.proofs.Below.{any_below-from, any_below-none}
use Rattle.bits.specs.Bits.{bit_of, in_word}
use Rattle.bits.proofs.Laws.{bit_zero, some_bit, word_none, word-from}

-- the rows m from low on of which f holds and in which some number of g m stands: none before low
pub none_before :
    (low : ℕ) (f : ℕ → Bool) (g : ℕ → ℕ → Bool) → any_below low (λ (m : ℕ). leb low m && (f m && in_word (g m))) ≡ false
none_before low f g = any_below-none low _ (λ k l. rw (lt-leb low k l))

module _ (low x : ℕ) (f : ℕ → Bool) (g : ℕ → ℕ → Bool) where
  -- the row x has no such number, or f does not hold of it
  pub row_misses :
      (w : ℕ) → w ≡ 0 → ((y : ℕ) → bit_of w y ≡ g x y) → any_below x (λ (m : ℕ). leb low m && (f m && in_word (g m))) ≡ false
      → any_below (x + 1) (λ (m : ℕ). leb low m && (f m && in_word (g m))) ≡ false
  row_misses w z e h = rw (add-one x, empty, and-false (f x), and-false (leb low x)) h
    where
      empty : in_word (g x) ≡ false
      empty = word_none (g x) (λ y l. sym (e y) ∙ ap (λ (v : ℕ). bit_of v y) z ∙ bit_zero y)

  pub row_skipped :
      f x ≡ false → any_below x (λ (m : ℕ). leb low m && (f m && in_word (g m))) ≡ false
      → any_below (x + 1) (λ (m : ℕ). leb low m && (f m && in_word (g m))) ≡ false
  row_skipped e h = rw (add-one x, e, and-false (leb low x)) h

-- the row x has such a number
pub row_meets_lem :
    (low high x : ℕ) (f : ℕ → Bool) (g : ℕ → ℕ → Bool) → low ≤ x → x ≤ high → f x ≡ true → (w : ℕ) → w < 2 ^ 64 → (w ≡ 0 → ⊥)
    → ((y : ℕ) → bit_of w y ≡ g x y) → true ≡ any_below (suc high) (λ (m : ℕ). leb low m && (f m && in_word (g m)))
row_meets_lem low high x f g from to e w small Some-number bits =
    let (k, l, b) = some_bit w small Some-number in
    sym
    (any_below-from (suc high) (λ (m : ℕ). leb low m && (f m && in_word (g m))) x (omega arith)
    (rw (le-leb low x from, e, word-from (g x) k l (sym (bits k) ∙ b))))

pub none-meets : (f : ℕ → Bool) (x n : ℕ) → x ≡ n → any_below x f ≡ false → false ≡ any_below n f
none-meets f x n e h = sym (ap (λ (k : ℕ). any_below k f) (sym e) ∙ h)
