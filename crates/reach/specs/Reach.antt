-- The model of the search: where the last pins of a word can stand, under a bound on the load (document 003, section 5.1).
-- Columns are numbers from 1, and 0 stands for "no pin placed yet"; i counts the top pins placed so far, j the bottom pins.
-- Assumes nothing.
use Rattle.std.specs.Prelude.{ℕ, zero, suc, pred, List, Bool, cond, ◌&&◌, ◌||◌, length, get_or, leb, ltb, eqb}
use Rattle.channel.specs.Below.{any_below}
use Rattle.channel.specs.Sheet.{Terminal, no_terminal, Sheet}
use Rattle.channel.specs.Assignment.{allows, in_range}
use Rattle.channel.specs.Word.Letter.{top, bottom, both}
use Rattle.channel.specs.Cut.{load}

-- the i-th terminal of a side, from 1
abbrev pub terminal_number : List Terminal → ℕ → Terminal
terminal_number ts i = get_or ts (pred i) no_terminal

-- pin i of a side may stand in column u as far as its distance goes, where the pin before it stands in column t;
-- the first pin is tied to nothing
abbrev pub near : List Terminal → ℕ → ℕ → ℕ → Bool
near ts i t u = leb i 1 || in_range (terminal_number ts i).least (terminal_number ts i).greatest t u

-- pin i of a side may stand in column u, where the pin before it stands in column t
abbrev pub stands : List Terminal → ℕ → ℕ → ℕ → Bool
stands ts i t u = allows (terminal_number ts i).allowed u && near ts i t u

-- of the sheet s, with loads of at most d
module _ (s : Sheet) (d : ℕ) where
  -- The last pins stand in u and v. The column furthest right holds a top pin only, the i-th:
  -- without it the last pins stood in some t left of u, and in v
  abbrev pub by_top : ℕ → ℕ → (ℕ → ℕ → Bool) → ℕ → ℕ → Bool
  by_top i j less u v = leb (load s top i j) d && any_below u (λ (t : ℕ). stands s.top i t u && less t v)

  -- it holds a bottom pin only, the j-th
  abbrev pub by_bottom : ℕ → ℕ → (ℕ → ℕ → Bool) → ℕ → ℕ → Bool
  by_bottom i j less u v = leb (load s bottom i j) d && any_below v (λ (b : ℕ). stands s.bottom j b v && less u b)

  -- it holds both
  abbrev pub by_both : ℕ → ℕ → (ℕ → ℕ → Bool) → ℕ → ℕ → Bool
  by_both i j less u v =
      leb (load s both i j) d
      && any_below u (λ (t : ℕ). any_below v (λ (b : ℕ). stands s.top i t u && (stands s.bottom j b v && less t b)))

  -- `reach` for no top pin and j bottom pins
  unfoldable pub bottoms_only : ℕ → ℕ → ℕ → Bool
  bottoms_only zero u v = eqb u 0 && eqb v 0
  bottoms_only (suc j) u v = ltb u v && by_bottom 0 (suc j) (bottoms_only j) u v

  -- `reach` for i top pins and j bottom pins, where `less` is `reach` for one top pin less
  unfoldable pub with_tops : ℕ → (ℕ → ℕ → ℕ → Bool) → ℕ → ℕ → ℕ → Bool
  with_tops i less zero u v = ltb v u && by_top i 0 (less 0) u v
  with_tops i less (suc j) u v =
      cond (ltb v u) (by_top i (suc j) (less (suc j)) u v)
      (cond (ltb u v) (by_bottom i (suc j) (with_tops i less j) u v) (by_both i (suc j) (less j) u v))

  -- i top pins and j bottom pins can be placed, the last ones in u and v (0 for a side with none), with every distance in
  -- range, every column allowed and no load above d
  unfoldable pub reach : ℕ → ℕ → ℕ → ℕ → Bool
  reach zero j u v = bottoms_only j u v
  reach (suc i) j u v = with_tops (suc i) (reach i) j u v

  -- all pins can be placed
  unfoldable pub feasible : Bool
  feasible =
      any_below (suc s.columns) (λ (u : ℕ). any_below (suc s.columns) (λ (v : ℕ). reach (length s.top) (length s.bottom) u v))
