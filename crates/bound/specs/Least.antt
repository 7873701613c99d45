-- The least bound that a test passes.
-- Assumes nothing.
use Rattle.std.specs.Prelude.{ℕ, ◌<◌, ◌≡◌, Bool, true, false}

-- f holds of nothing below d
abbrev pub Below : (ℕ → Bool) → ℕ → Type 0
Below f d = (e : ℕ) → e < d → f e ≡ false

-- f holds of d, and of nothing below it
pub record Least (f : ℕ → Bool) (d : ℕ) : Type 0 where
  pub holds : f d ≡ true
  pub smaller : Below f d
