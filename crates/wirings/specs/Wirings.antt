-- The wirings of a channel that give each net one track: "The problem of restrictive routing is to determine the number of a horizontal
-- track for every net" (document 002, section 2).
-- Assumes nothing.
use Rattle.std.specs.Prelude.{ℕ, ◌≤◌, ◌<◌, ◌≡◌, Bool, true}

-- columns 1 to l, the rule by which a net crosses one of them, and which net lies over which
module _ (l : ℕ) (crossing over : ℕ → ℕ → Bool) where
  -- how many tracks there are, and the track of each net, counted from 0 at the top
  pub record Wired (tracks : ℕ) (track : ℕ → ℕ) : Type 0 where
    -- a net that crosses a column has one of the tracks
    pub within : (n c : ℕ) → 1 ≤ c → c ≤ l → crossing n c ≡ true → track n < tracks
    -- "No two nets which have a horizontal constraint may be assigned to the same track": two that cross one column have one
    pub apart : (m n c : ℕ) → 1 ≤ c → c ≤ l → crossing m c ≡ true → crossing n c ≡ true → track m ≡ track n → m ≡ n
    -- a net that lies over another "must be placed above", and both have one of the tracks
    pub above : (m n : ℕ) → over m n ≡ true → (track m < track n) × (track n < tracks)
