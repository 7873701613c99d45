-- The allowed columns that the pins of one side leave each other, in the words of their rules: bit x of the i-th pin's set is the column
-- x + i, and a step by bit e of its range is the distance e + 1.
-- Assumes nothing.
use Rattle.std.specs.Prelude.{ℕ, suc, ◌≤◌, ◌<◌, ◌≡◌, List, length, Bool, ◌&&◌, ◌||◌, eqb}
use Rattle.bits.specs.Bits.{bit_of, in_word}
use Rattle.arrays.specs.Rules.{pins, range_at, allowed_at}
use Rattle.steps.specs.Stepped.{stepped, stepped_back}

-- of a side's allowed sets at most those of the pins from `first` to before `end` are changed, and nothing else in the table
pub record SetsAlone (side first end : ℕ) (old new : List ℕ) : Type 0 where
  pub kept : length new ≡ length old
  pub ranges : (b i : ℕ) → 1 ≤ i → i ≤ pins → range_at new b i ≡ range_at old b i
  pub others : (b i : ℕ) → 1 ≤ i → i ≤ pins → (b ≡ side → first ≤ i → i < end → ⊥) → allowed_at new b i ≡ allowed_at old b i

-- each of the first n pins but the first keeps the columns that some column kept for the pin before it reaches
pub record FromLeft (side n : ℕ) (old new : List ℕ) : Type 0 where
  pub alone : SetsAlone side 2 (suc n) old new
  pub sets :
      (i x : ℕ) → 1 ≤ i → i < n
      → bit_of (allowed_at new side (suc i)) x
      ≡ (bit_of (allowed_at old side (suc i)) x && stepped (allowed_at new side i) (range_at old side (suc i)) x)

-- each of the pins from m to before n keeps the columns that reach some column kept for the pin behind it
pub record FromRight (side m n : ℕ) (old new : List ℕ) : Type 0 where
  pub alone : SetsAlone side m n old new
  pub sets :
      (i x : ℕ) → m ≤ i → i < n
      → bit_of (allowed_at new side i) x
      ≡ (bit_of (allowed_at old side i) x && stepped_back (allowed_at new side (suc i)) (range_at old side (suc i)) x)

-- both, one after the other: `left` is the table between them
pub record Clipped (side n : ℕ) (old new : List ℕ) : Type 0 where
  pub left : List ℕ
  pub from_left : FromLeft side n old left
  pub from_right : FromRight side 1 n left new

-- some column is left for the last pin, or there is no pin
abbrev pub side_open : ℕ → ℕ → List ℕ → Bool
side_open side n rules = eqb n 0 || in_word (bit_of (allowed_at rules side n))
