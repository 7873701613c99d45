-- Relations that agree on the numbers below n reach the same there and have walks of the same lengths.
-- Assumes nothing.
use Rattle.std.proofs.Common.{◌≡◌, ℕ, zero, suc, ◌≤◌, ◌<◌, Bool, ◌&&◌, refl, ap₂, arith}
use Rattle.channel.proofs.Below.{any_below_cong}
use Rattle.relation.specs.Relation.{reaches, starts, longest}

module _ (leads other : ℕ → ℕ → Bool) (n : ℕ) (agree : (a b : ℕ) → a < n → b < n → leads a b ≡ other a b) where
  pub reaches_same : (k a b : ℕ) → k ≤ n → a < n → b < n → reaches leads k a b ≡ reaches other k a b
  unfolding reaches
  reaches_same zero a b l i j = agree a b i j
  reaches_same (suc k) a b l i j =
      rw (
        reaches_same k a b (omega arith) i j,
        reaches_same k a k (omega arith) i (omega arith),
        reaches_same k k b (omega arith) (omega arith) j,
      )

  starts_same : (k a : ℕ) → a < n → starts leads n k a ≡ starts other n k a
  unfolding starts
  starts_same zero a i = refl
  starts_same (suc k) a i =
      any_below_cong n _ _ (λ b j. ap₂ (λ (x y : Bool). x && y) (agree a b i j) (starts_same k b j))

  pub longest_same : (most : ℕ) → longest leads n most ≡ longest other n most
  unfolding longest
  longest_same zero = refl
  longest_same (suc most) = rw (any_below_cong n _ _ (starts_same (suc most)), longest_same most)
