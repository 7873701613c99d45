-- Where the scans for a net's ends start says at which ends it leaves.
-- Assumes nothing.
use Rattle.std.proofs.Common.{◌≡◌, ℕ, ◌<◌, ◌≤◌, Bool, true, false, cond, ltb, leb, arith, le-ltb, lt-ltb, le-leb}
use Rattle.std.proofs.lemmas.Bool.{lt-leb}
use Rattle.kind.specs.declared.Kind.{Kind}
use Rattle.kind.specs.Kinds.{leaves_left, leaves_right, left_start, right_start}

-- a test of a number that is one of two
chosen : (f : ℕ → Bool) (x y : ℕ) → f x ≡ true → f y ≡ false → (b : Bool) → f (cond b x y) ≡ b
chosen f x y e d true = e
chosen f x y e d false = d

-- such a number is not a third
apart : (c x y : ℕ) → (x ≡ c → ⊥) → (y ≡ c → ⊥) → (b : Bool) → cond b x y ≡ c → ⊥
apart c x y f g true = f
apart c x y f g false = g

module _ (k : Kind) (c : ℕ) (high : c < 255) where
  -- the left end starts at or left of column c exactly if the net leaves at the left
  pub left_start_lem : leb (left_start k) c ≡ leaves_left k
  left_start_lem = chosen (λ (x : ℕ). leb x c) 0 255 (le-leb 0 c (omega arith)) (lt-leb 255 c high) (leaves_left k)

  -- the right end starts right of it exactly if the net leaves at the right
  pub right_start_lem : ltb c (right_start k) ≡ leaves_right k
  right_start_lem = chosen (λ (x : ℕ). ltb c x) 255 0 (lt-ltb c 255 high) (le-ltb c 0 (omega arith)) (leaves_right k)

  -- and none starts in it
  module _ (low : 1 ≤ c) where
    pub left-start-before : ltb (left_start k) c ≡ leaves_left k
    left-start-before = chosen (λ (x : ℕ). ltb x c) 0 255 (lt-ltb 0 c low) (le-ltb 255 c (omega arith)) (leaves_left k)

    pub left-start-apart : left_start k ≡ c → ⊥
    left-start-apart = apart c 0 255 (λ e. omega arith) (λ e. omega arith) (leaves_left k)

    pub right-start-from : leb c (right_start k) ≡ leaves_right k
    right-start-from = chosen (λ (x : ℕ). leb c x) 255 0 (le-leb c 255 (omega arith)) (lt-leb c 0 low) (leaves_right k)

    pub right-start-apart : right_start k ≡ c → ⊥
    right-start-apart = apart c 255 0 (λ e. omega arith) (λ e. omega arith) (leaves_right k)
