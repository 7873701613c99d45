-- Which column lists are assignments of a sheet (document 01, "Column, crossing, density"; document 003, sections 2 and 5.1).
-- Assumes nothing.
use Rattle.std.specs.Prelude.{ℕ, zero, suc, ◌+◌, ◌/◌, ◌%◌, ◌^◌, List, [], ◌∷◌, Bool, true, false, ◌&&◌, length, take, drop, leb, eqb}
use Rattle.channel.specs.Sheet.{Terminal, Sheet}

-- whether a set names a column; bit 0 is column 1, and there is no column 0
abbrev pub allows : ℕ → ℕ → Bool
allows set zero = false
allows set (suc c) = eqb (set / 2 ^ c % 2) 1

-- "its column minus the column of the terminal just before it lies within its own range"
abbrev pub in_range : ℕ → ℕ → ℕ → ℕ → Bool
in_range least greatest before column = leb (before + least) column && leb column (before + greatest)

-- terminals after the first, with the column of the terminal before them
abbrev pub later_fit : List Terminal → ℕ → List ℕ → Bool
later_fit [] before [] = true
later_fit [] before (c ∷ cs) = false
later_fit (t ∷ ts) before [] = false
later_fit (t ∷ ts) before (c ∷ cs) = allows t.allowed c && (in_range t.least t.greatest before c && later_fit ts c cs)

-- one side: each number is in its terminal's set; the first terminal is tied to nothing, each later one to the one before it
abbrev pub side_fits : List Terminal → List ℕ → Bool
side_fits [] [] = true
side_fits [] (c ∷ cs) = false
side_fits (t ∷ ts) [] = false
side_fits (t ∷ ts) (c ∷ cs) = allows t.allowed c && later_fit ts c cs

-- the two sides' columns are an assignment
unfoldable pub fits : Sheet → List ℕ → List ℕ → Bool
fits s tops bottoms = side_fits s.top tops && side_fits s.bottom bottoms

-- "A column list is p+q numbers, top terminals in order, then bottom"
unfoldable pub top_columns : Sheet → List ℕ → List ℕ
top_columns s cs = take (length s.top) cs

unfoldable pub bottom_columns : Sheet → List ℕ → List ℕ
bottom_columns s cs = drop (length s.top) cs

unfoldable pub is_assignment : Sheet → List ℕ → Bool
is_assignment s cs = fits s (top_columns s cs) (bottom_columns s cs)
