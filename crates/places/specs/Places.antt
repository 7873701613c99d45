-- Where a net has its pins, seen from a point with some pins of each side at or left of it, and what two numbers of a pin say of it.
-- Assumes nothing.
use Rattle.std.specs.Prelude.{ℕ, suc, ◌<◌, ◌≡◌, List, Bool, ◌||◌, length, get_or, take, drop, leb, ltb}
use Rattle.kind.specs.Kinds.{kind_of, leaves_left, leaves_right}
use Rattle.channel.specs.Cut.{has}
use Rattle.places.specs.declared.PinPlaces.{PinPlaces}

-- net n has come before a point with i pins of one side and j of the other at or left of it: it comes in at the left end of the channel, or
-- has a pin there
abbrev pub comes : List ℕ → List ℕ → ℕ → ℕ → ℕ → Bool
comes own other i j n = leaves_left (kind_of n) || (has n (take i own) || has n (take j other))

-- it goes on behind it: it leaves at the right end, or has a pin right of it
abbrev pub goes_on : List ℕ → List ℕ → ℕ → ℕ → ℕ → Bool
goes_on own other i j n = leaves_right (kind_of n) || (has n (drop i own) || has n (drop j other))

-- net n comes in at the left or has a pin among the first c of a side exactly if c is at or above `first`, and leaves at the right or has a
-- pin behind them exactly if c is below `last`
pub record EndsOf (n : ℕ) (side : List ℕ) (first last : ℕ) : Type 0 where
  pub left : (c : ℕ) → c < 255 → leb first c ≡ (leaves_left (kind_of n) || has n (take c side))
  pub right : (c : ℕ) → c < 255 → ltb c last ≡ (leaves_right (kind_of n) || has n (drop c side))

-- the numbers of the pin at index i of its own side, where f says which nets are straight wires that count
pub record Numbers (f : ℕ → Bool) (own other : List ℕ) (i : ℕ) (pin : PinPlaces) : Type 0 where
  pub net : pin.net ≡ get_or own i 0
  pub opens : (j : ℕ) → j < 255 → leb pin.opens j ≡ comes own other i j pin.net
  pub closes : (j : ℕ) → j < 255 → ltb j pin.closes ≡ goes_on own other (suc i) j pin.net
  pub straight : pin.straight ≡ f pin.net

-- the numbers of all pins of a side
pub record ListedPins (f : ℕ → Bool) (own other : List ℕ) (pins : List PinPlaces) : Type 0 where
  pub size : length pins ≡ length own
  pub each : (i : ℕ) (d : PinPlaces) → i < length own → Numbers f own other i (get_or pins i d)
