-- A walk from column L down that chooses a letter for each column, and the columns that it writes.
-- Assumes nothing.
use Rattle.std.specs.Prelude.{ℕ, zero, suc, ◌≤◌, ◌<◌, List}
use Rattle.letters.specs.declared.Progress.{Progress}
use Rattle.letters.specs.Letters.{behind, written}

-- the walk over the c columns that are left, p top pins in all
unfoldable pub walk_columns : (Progress → ℕ) → ℕ → ℕ → Progress → List ℕ → List ℕ
walk_columns choose p zero m columns = columns
walk_columns choose p (suc c) m columns =
    let letter : ℕ = choose m in walk_columns choose p c (behind letter m) (written p letter m columns)

-- where it starts: with l columns to letter, p top and q bottom pins to place, and none placed
abbrev pub start_of : ℕ → ℕ → ℕ → Progress
start_of l p q = record { c = l; i = p; j = q; top = 0; bottom = 0 }

-- the whole walk
abbrev pub whole_walk : (Progress → ℕ) → ℕ → ℕ → ℕ → List ℕ → List ℕ
whole_walk choose l p q columns = walk_columns choose p l (start_of l p q) columns

-- no more pins are to be placed than there are, and the pins placed last stand behind the columns that are left
pub record AsksStep (p q : ℕ) (m : Progress) : Type 0 where
  pub c : m.c ≤ 64
  pub i : m.i ≤ p
  pub j : m.j ≤ q
  pub top : m.i < p → m.c < m.top
  pub bottom : m.j < q → m.c < m.bottom
