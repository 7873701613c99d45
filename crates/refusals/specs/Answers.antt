-- What an answer carries in the refusal list's numbers: a refusal its number and its amount, any other answer 0 and 0 (document 01, "The
-- refusal list"; document 02, T-01).
-- Assumes nothing.
use Rattle.std.specs.Prelude.{ℕ, ℤ, pos, Result, Ok, Err}

abbrev pub number_in : {T E : Type 0} → (E → ℕ) → Result T E → ℕ
number_in number (Ok value) = 0
number_in number (Err why) = number why

-- "14 .. carries the amount; all others carry 0"
abbrev pub amount_in : {T E : Type 0} → (E → ℤ) → Result T E → ℤ
amount_in amount (Ok value) = pos 0
amount_in amount (Err why) = amount why

-- "Each refusal carries density 0", and so a length, a number of nets or of tracks
abbrev pub value_in : {E : Type 0} → Result ℕ E → ℕ
value_in (Ok value) = value
value_in (Err why) = 0
