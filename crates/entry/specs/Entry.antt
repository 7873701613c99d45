-- What the table holds: which places the pins can reach under a density bound, in the table's own numbers. Row x of plane (i, j)
-- is for the last top pin in column x + i, and bit y of it for the last bottom pin in column y + j.
-- Assumes nothing.
use Rattle.std.specs.Prelude.{ℕ, zero, suc, ◌+◌, ◌-◌, List, Bool, false, ◌&&◌, ◌||◌, leb, ltb, eqb}
use Rattle.channel.specs.Below.{any_below}
use Rattle.arrays.specs.Rules.{range_at, allowed_at}
use Rattle.arrays.specs.Loads.{load_at}
use Rattle.bits.specs.Bits.{bit_of}

-- one pin moves to x, the other stays at y: the load is within the bound, x is allowed, and some place before x is in range
abbrev pub alone : ℕ → ℕ → ℕ → ℕ → (ℕ → ℕ → Bool) → ℕ → ℕ → Bool
alone load bound allowed range less x y =
    leb load bound && (bit_of allowed x && any_below (suc x) (λ (n : ℕ). bit_of range (x - n) && less n y))

-- no pin is placed
abbrev pub start_part : ℕ → ℕ → ℕ → ℕ → Bool
start_part i j x y = eqb i 0 && (eqb j 0 && (eqb x 0 && eqb y 0))

module _ (rules loads : List ℕ) (bound i j : ℕ) where
  -- the last column holds a top pin alone
  abbrev pub top_part : (ℕ → ℕ → Bool) → ℕ → ℕ → Bool
  top_part above x y =
      ltb 0 i && (ltb (y + j) (x + i) && alone (load_at loads i j 0) bound (allowed_at rules 0 i) (range_at rules 0 i) above x y)

  -- a bottom pin alone
  abbrev pub bottom_part : (ℕ → ℕ → Bool) → ℕ → ℕ → Bool
  bottom_part before x y =
      ltb 0 j
      && (ltb (x + i) (y + j)
      && alone (load_at loads i j 1) bound (allowed_at rules 1 j) (range_at rules 1 j) (λ (n m : ℕ). before m n) y x)

  -- both
  abbrev pub both_part : (ℕ → ℕ → Bool) → ℕ → ℕ → Bool
  both_part diagonal x y =
      ltb 0 i
      && (ltb 0 j
      && (eqb (y + j) (x + i)
      && (leb (load_at loads i j 2) bound
      && (bit_of (allowed_at rules 0 i) x
      && (bit_of (allowed_at rules 1 j) y
      && any_below (suc y)
      (λ (m : ℕ). bit_of (range_at rules 1 j) (y - m)
      && any_below (suc x) (λ (n : ℕ). bit_of (range_at rules 0 i) (x - n) && diagonal n m)))))))

  -- one place, from the planes of one top pin less, one bottom pin less, and one of each less
  unfoldable pub entry : (ℕ → ℕ → Bool) → (ℕ → ℕ → Bool) → (ℕ → ℕ → Bool) → ℕ → ℕ → Bool
  entry above before diagonal x y = start_part i j x y || (top_part above x y || (bottom_part before x y || both_part diagonal x y))

-- the table: by recursion on the number of top pins, and within that on the number of bottom pins
module _ (rules loads : List ℕ) (bound : ℕ) where
  abbrev nowhere : ℕ → ℕ → Bool
  nowhere x y = false

  unfoldable pub bottoms_only : ℕ → ℕ → ℕ → Bool
  bottoms_only zero x y = entry rules loads bound 0 0 nowhere nowhere nowhere x y
  bottoms_only (suc j) x y = entry rules loads bound 0 (suc j) nowhere (bottoms_only j) nowhere x y

  unfoldable pub with_tops : ℕ → (ℕ → ℕ → ℕ → Bool) → ℕ → ℕ → ℕ → Bool
  with_tops i less zero x y = entry rules loads bound i 0 (less 0) nowhere nowhere x y
  with_tops i less (suc j) x y = entry rules loads bound i (suc j) (less (suc j)) (with_tops i less j) (less j) x y

  unfoldable pub cell : ℕ → ℕ → ℕ → ℕ → Bool
  cell zero j x y = bottoms_only j x y
  cell (suc i) j x y = with_tops (suc i) (cell i) j x y
