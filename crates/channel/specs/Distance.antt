-- How far a distance is out of its range (document 02, T-01, "How far out is the gap?").
-- Assumes nothing.
use Rattle.std.specs.Prelude.{ℕ, ◌+◌, ◌-◌, ◌≤◌, ◌<◌, ◌≡◌, true, cond, ◌↔◌, ℤ, pos, neg_ℤ, ◌-ℤ◌, ◌<ℤ◌}
use Rattle.std.specs.Int.Signed.{lt_z}
use Rattle.channel.specs.Assignment.{in_range}

-- "its column minus the column of the terminal just before it"
abbrev pub distance : ℕ → ℕ → ℤ
distance before column = pos column -ℤ pos before

-- "zero when in range, a negative number of columns when too short, tried first, a positive number when too long: the distance less the
-- bound it breaks"
unfoldable pub amount : ℕ → ℕ → ℕ → ℕ → ℤ
amount least greatest before column =
    cond (lt_z (distance before column) (pos least)) (distance before column -ℤ pos least)
    (cond (lt_z (pos greatest) (distance before column)) (distance before column -ℤ pos greatest)
    (pos 0))

-- what an amount says: its sign, and how many columns it is
pub record Says (least greatest before column : ℕ) (r : ℤ) : Type 0 where
  pub zero : (r ≡ pos 0) ↔ (in_range least greatest before column ≡ true)
  pub negative : (r <ℤ pos 0) ↔ (column < before + least)
  pub positive : (pos 0 <ℤ r) ↔ ((before + least ≤ column) × (before + greatest < column))
  pub short : column < before + least → r ≡ neg_ℤ (pos (before + least - column))
  pub long : before + least ≤ column → before + greatest < column → r ≡ pos (column - (before + greatest))
