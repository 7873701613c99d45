-- The array of the loads: three bytes for each cut.
-- Assumes nothing.
use Rattle.std.specs.Prelude.{ℕ, ◌+◌, ◌*◌, List, get_or, set}

-- the cuts with one number of top pins: of 0 to 64 bottom pins; and the bytes of so many rows of cuts
abbrev cuts : ℕ
cuts = 65

abbrev pub load_rows : ℕ → ℕ
load_rows n = 3 * (cuts * n)

-- where the loads of the cut (i, j) start: a row of cuts for each i
abbrev pub cut_place : ℕ → ℕ → ℕ
cut_place i j = 3 * (cuts * i + j)

-- the load of a column with i top and j bottom pins at or left of it: 0 a top pin in it, 1 a bottom pin, 2 both
abbrev pub load_at : List ℕ → ℕ → ℕ → ℕ → ℕ
load_at loads i j letter = get_or loads (cut_place i j + letter) 0

-- the array with a cut's three loads put in
abbrev pub put_loads : List ℕ → ℕ → ℕ → ℕ → ℕ → ℕ → List ℕ
put_loads loads i j top bottom both =
    set (set (set loads (cut_place i j) top) (cut_place i j + 1) bottom) (cut_place i j + 2) both
