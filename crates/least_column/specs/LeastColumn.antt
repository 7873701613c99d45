-- The least column in which the last of i top and j bottom pins can stand under a bound on the load, going by sets and orders alone:
-- distances are left aside. Pins and columns are counted from 1, and the number behind the channel's last column stands for "none".
-- Assumes nothing.
use Rattle.std.specs.Prelude.{ℕ, zero, suc, ◌<◌, ◌≡◌, min, List, [], ◌∷◌, Bool, true, false, not, cond, ◌&&◌, ◌||◌, length, leb, ltb, eqb}
use Rattle.channel.specs.Sheet.{Terminal, Sheet}
use Rattle.channel.specs.Assignment.{allows, in_range}
use Rattle.channel.specs.Word.{Letter, has_top, has_bottom}
use Rattle.channel.specs.Word.Letter.{empty, top, bottom, both}
use Rattle.channel.specs.Cut.{before, load, occupied}
use Rattle.reach.specs.Reach.{terminal_number}
use Rattle.reach.specs.Greedy.{smallest_of}

-- pin i of a side is allowed in column c
abbrev pub allowed_to : List Terminal → ℕ → ℕ → Bool
allowed_to ts i c = allows (terminal_number ts i).allowed c

-- one side of a letter: if it has a pin of this side, one is left, the i-th, and column c is in its set
abbrev pub takes : Bool → List Terminal → ℕ → ℕ → Bool
takes true ts i c = not (eqb i 0) && allowed_to ts i c
takes false ts i c = true

-- the least column from 1 to l above m of which f holds, or l + 1
unfoldable pub next_column : ℕ → (ℕ → Bool) → ℕ → ℕ
next_column zero f m = 1
next_column (suc l) f m =
    let k : ℕ = next_column l f m in
    cond (leb k l) k (cond (ltb m (suc l) && f (suc l)) (suc l) (suc (suc l)))

-- of the sheet s, with loads of at most d
module _ (s : Sheet) (d : ℕ) where
  -- the i-th top and the j-th bottom pin are the last, and the column furthest right holds this letter: the next column of f above m,
  -- if the load is within the bound
  unfoldable pub with_letter : Letter → ℕ → ℕ → (ℕ → Bool) → ℕ → ℕ
  with_letter a i j f m = cond (leb (load s a i j) d) (next_column s.columns f m) (suc s.columns)

  -- it holds a top pin only; without it the least column is m
  abbrev pub top_next : ℕ → ℕ → ℕ → ℕ
  top_next i j m = with_letter top i j (allowed_to s.top i) m

  -- it holds a bottom pin only
  abbrev pub bottom_next : ℕ → ℕ → ℕ → ℕ
  bottom_next i j m = with_letter bottom i j (allowed_to s.bottom j) m

  -- it holds both
  abbrev pub both_next : ℕ → ℕ → ℕ → ℕ
  both_next i j m = with_letter both i j (λ (c : ℕ). allowed_to s.top i c && allowed_to s.bottom j c) m

  -- for no top pin and j bottom pins
  unfoldable pub least_bottoms : ℕ → ℕ
  least_bottoms zero = 0
  least_bottoms (suc j) = bottom_next 0 (suc j) (least_bottoms j)

  -- for i top pins and j bottom pins, where `less` is for one top pin less
  unfoldable pub least_tops : ℕ → (ℕ → ℕ) → ℕ → ℕ
  least_tops i less zero = top_next i 0 (less 0)
  least_tops i less (suc j) =
      min (top_next i (suc j) (less (suc j))) (min (bottom_next i (suc j) (least_tops i less j)) (both_next i (suc j) (less j)))

  -- the least column of i top and j bottom pins
  unfoldable pub least_column : ℕ → ℕ → ℕ
  least_column zero j = least_bottoms j
  least_column (suc i) j = least_tops (suc i) (least_column i) j

  -- of all pins
  abbrev pub last_column : ℕ
  last_column = least_column (length s.top) (length s.bottom)

  -- the test of a letter for column c + 1 that reads the least columns, where i and j pins are still to be placed in the columns 1 to c + 1
  unfoldable pub by_order : ℕ → ℕ → ℕ → Letter → Bool
  by_order c i j a =
      (not (occupied a) || leb (load s a i j) d)
      && (takes (has_top a) s.top i (suc c) && (takes (has_bottom a) s.bottom j (suc c)
      && leb (least_column (before (has_top a) i) (before (has_bottom a) j)) c))

  -- the smallest letter that passes it
  unfoldable pub order_choice : ℕ → ℕ → ℕ → Letter
  order_choice c i j = smallest_of (by_order c i j empty) (by_order c i j top) (by_order c i j bottom)

  -- the letters of the columns c down to 1
  unfoldable pub order_walk_from : ℕ → ℕ → ℕ → List Letter
  order_walk_from zero i j = []
  order_walk_from (suc c) i j =
      let a : Letter = order_choice c i j in a ∷ order_walk_from c (before (has_top a) i) (before (has_bottom a) j)

  -- the word of the whole channel
  unfoldable pub order_walk : List Letter
  order_walk = order_walk_from s.columns (length s.top) (length s.bottom)

-- no distance of a side binds: of any two columns in their order, the first in a pin's set and the second in that of the pin after it, the
-- distance is in range
pub record NoneBinds (ts : List Terminal) : Type 0 where
  pub ranges :
      (i a b : ℕ) → a < b → allowed_to ts (suc i) a ≡ true → allowed_to ts (suc (suc i)) b ≡ true
      → in_range (terminal_number ts (suc (suc i))).least (terminal_number ts (suc (suc i))).greatest a b ≡ true
