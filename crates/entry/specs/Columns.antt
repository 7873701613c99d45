-- What the rows of a plane go by, and what they are made from.
-- Assumes nothing.
use Rattle.std.specs.Prelude.{ℕ, suc, ◌-◌, ◌<◌, ◌≡◌, List, Bool, false, ◌&&◌, cond, leb, ltb, eqb}
use Rattle.channel.specs.Below.{any_below}
use Rattle.arrays.specs.Rules.{range_at, allowed_at}
use Rattle.arrays.specs.Loads.{load_at}
use Rattle.bits.specs.Bits.{bit_of}
use Rattle.entry.specs.Entry.{cell}

-- the rows of the planes of i whose column the last top pin may have: with none, the row of no pin
abbrev pub rows_of : List ℕ → ℕ → ℕ
rows_of rules i = cond (eqb i 0) 1 (allowed_at rules 0 i)

module _ (rules loads : List ℕ) (bound i j : ℕ) where
  -- the columns of the last top pin, where the load is within the bound
  abbrev pub Tops : ℕ → ℕ → Type 0
  Tops letter w = (x : ℕ) → bit_of w x ≡ (ltb 0 i && (leb (load_at loads i j letter) bound && bit_of (allowed_at rules 0 i) x))

  -- where it stands alone
  abbrev pub Top : ℕ → Type 0
  Top w = Tops 0 w

  -- those of the last bottom pin, where it stands alone
  abbrev pub Bottom : ℕ → Type 0
  Bottom w = (y : ℕ) → bit_of w y ≡ (ltb 0 j && (leb (load_at loads i j 1) bound && bit_of (allowed_at rules 1 j) y))

  -- those of both, where they stand in one
  abbrev pub Pair : ℕ → ℕ → Type 0
  Pair top bottom = Tops 2 top × ((y : ℕ) → bit_of bottom y ≡ (ltb 0 j && bit_of (allowed_at rules 1 j) y))

  -- all rows in which anything stands
  abbrev pub Rows : ℕ → Type 0
  Rows w = (x y : ℕ) → bit_of w x ≡ false → cell rules loads bound i j x y ≡ false

-- the steps `by` counted from the other end
abbrev pub Turned : ℕ → ℕ → Type 0
Turned by back = (n : ℕ) → n < 64 → bit_of back n ≡ bit_of by (63 - n)

-- the word is row x of f, and the union of the rows of f that are a step of `by` before x
abbrev pub Holds : ℕ → (ℕ → ℕ → Bool) → ℕ → Type 0
Holds x f w = (y : ℕ) → y < 64 → bit_of w y ≡ f x y

abbrev pub Union : ℕ → ℕ → (ℕ → ℕ → Bool) → ℕ → Type 0
Union by x f w = (y : ℕ) → y < 64 → bit_of w y ≡ any_below (suc x) (λ (n : ℕ). bit_of by (x - n) && f n y)

-- the word is the union of the rows of plane (i - 1, j) that are a step of the i-th top pin before x
abbrev pub United : List ℕ → List ℕ → ℕ → ℕ → ℕ → ℕ → ℕ → Type 0
United rules loads bound i j x w = 0 < i → Union (range_at rules 0 i) x (cell rules loads bound (i - 1) j) w
