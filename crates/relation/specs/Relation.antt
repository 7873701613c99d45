-- A relation between numbers, given by a test: paths, what is reached, and how many steps the longest walk has.
-- Assumes nothing.
use Rattle.std.specs.Prelude.{ℕ, zero, suc, List, [], ◌∷◌, Bool, true, cond, ◌&&◌, ◌||◌, get_or}
use Rattle.channel.specs.Below.{any_below}
use Rattle.bits.specs.Bits.{bit_of}

module _ (leads : ℕ → ℕ → Bool) where
  -- a leads to b through xs: each to the next
  abbrev pub path : ℕ → List ℕ → ℕ → Bool
  path a [] b = leads a b
  path a (x ∷ xs) b = leads a x && path x xs b

  -- b is reached from a, in one step or more, through none but numbers below k
  unfoldable pub reaches : ℕ → ℕ → ℕ → Bool
  reaches zero a b = leads a b
  reaches (suc k) a b = reaches k a b || (reaches k a k && reaches k k b)

  -- a walk of so many steps starts at a, and all numbers behind a are below n
  unfoldable pub starts : ℕ → ℕ → ℕ → Bool
  starts n zero a = true
  starts n (suc steps) a = any_below n (λ (b : ℕ). leads a b && starts n steps b)

  -- how many steps the longest walk of numbers below n has, where none of more than `most` counts
  unfoldable pub longest : ℕ → ℕ → ℕ
  longest n zero = 0
  longest n (suc most) = cond (any_below n (starts n (suc most))) (suc most) (longest n most)

-- a relation as a table of words: word b holds the numbers that lead to b
abbrev pub leads_in : List ℕ → ℕ → ℕ → Bool
leads_in words a b = bit_of (get_or words b 0) a
