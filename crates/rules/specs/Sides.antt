-- The words of a side's terminals, and what reading its section puts into their array.
-- Assumes nothing.
use Rattle.std.specs.Prelude.{ℕ, suc, ◌+◌, ◌≤◌, ◌<◌, ◌≡◌, List, length}
use Rattle.channel.specs.Sheet.{Terminal}
use Rattle.channel.specs.Assignment.{allows}
use Rattle.bits.specs.Bits.{bit_of}
use Rattle.arrays.specs.Rules.{pins, range_at, allowed_at}
use Rattle.reach.specs.Reach.{terminal_number, near}

-- one side's rules, 0 top and 1 bottom: bit e of a range is the distance e + 1, and bit x of an allowed set is the column x + i
pub record SideRules (side : ℕ) (ts : List Terminal) (rules : List ℕ) : Type 0 where
  pub range : (i e t : ℕ) → 1 ≤ i → i ≤ length ts → e < 64 → bit_of (range_at rules side i) e ≡ near ts i t (t + suc e)
  pub allowed :
      (i x : ℕ) → 1 ≤ i → i ≤ length ts → bit_of (allowed_at rules side i) x ≡ allows (terminal_number ts i).allowed (x + i)

-- the two words of a side's i-th terminal, as `SideRules` has them
pub record TerminalRule (ts : List Terminal) (i range_word allowed_word : ℕ) : Type 0 where
  pub range : (e t : ℕ) → e < 64 → bit_of range_word e ≡ near ts i t (t + suc e)
  pub allowed : (x : ℕ) → bit_of allowed_word x ≡ allows (terminal_number ts i).allowed (x + i)

-- the two words of a terminal are as they were
abbrev pub SameRule : ℕ → ℕ → List ℕ → List ℕ → Type 0
SameRule side i old new = (range_at new side i ≡ range_at old side i) × (allowed_at new side i ≡ allowed_at old side i)

-- the side's rules are in, and every other word is as it was: the other side's, and those past the side's terminals
pub record SideRead (side : ℕ) (ts : List Terminal) (old new : List ℕ) : Type 0 where
  pub kept : length new ≡ length old
  pub rules : SideRules side ts new
  pub others : (b i : ℕ) → 1 ≤ i → i ≤ pins → (b ≡ side → length ts < i) → SameRule b i old new
