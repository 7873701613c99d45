-- Whether a column list is an assignment of a sheet, and else the first refusal that applies (document 01, "Column, crossing, density" and
-- "The refusal list"; document 02, T-01).
-- Assumes nothing.
use Rattle.std.specs.Prelude.{ℕ, ◌+◌, List, [], ◌∷◌, Bool, true, false, cond, ◌&&◌, length, eqb, ℤ, pos, Result, Ok, Err}
use Rattle.channel.specs.Sheet.{Terminal, Sheet}
use Rattle.channel.specs.Assignment.{allows, top_columns, bottom_columns}
use Rattle.channel.specs.Distance.{amount}
use Rattle.terminal.specs.Amount.{is_zero}
use Rattle.refusals.specs.declared.ListRefusal.{ListRefusal}
use Rattle.refusals.specs.declared.ListRefusal.TheVariants.{Sheet as Unsound, Count, Allowed, Distance}
use Rattle.soundness.specs.Read.{sheet_of}
use Rattle.sheet.specs.declared.Layout.{Layout}
use Rattle.sheet.specs.Parts.{opened_of}
use Rattle.refusals.specs.declared.Refusal.{Refusal}

-- 13 of one side: each listed column is in its terminal's set
abbrev pub side_allowed : List Terminal → List ℕ → Bool
side_allowed [] cs = true
side_allowed (t ∷ ts) [] = true
side_allowed (t ∷ ts) (c ∷ cs) = allows t.allowed c && side_allowed ts cs

-- "13 over all terminals": none has "a listed column .. not in its terminal's set"
unfoldable pub all_allowed : Sheet → List ℕ → Bool
all_allowed s cs = side_allowed s.top (top_columns s cs) && side_allowed s.bottom (bottom_columns s cs)

-- the first of two amounts that is not 0
abbrev pub first_of : ℤ → ℤ → ℤ
first_of z next = cond (is_zero z) next z

-- 14 of the terminals after the first, with the column of the terminal before them: the amount of the first distance out of range, or 0
abbrev pub later_amount : List Terminal → ℕ → List ℕ → ℤ
later_amount [] before cs = pos 0
later_amount (t ∷ ts) before [] = pos 0
later_amount (t ∷ ts) before (c ∷ cs) = first_of (amount t.least t.greatest before c) (later_amount ts c cs)

-- 14 of one side: "for every terminal of a side but its first"; nothing ties the first
abbrev pub side_amount : List Terminal → List ℕ → ℤ
side_amount [] cs = pos 0
side_amount (t ∷ ts) [] = pos 0
side_amount (t ∷ ts) (c ∷ cs) = later_amount ts c cs

-- "14 over all pairs", "top pairs before bottom pairs": "the amount returned is that of the first bad pair", and 0 where there is none
unfoldable pub first_amount : Sheet → List ℕ → ℤ
first_amount s cs = first_of (side_amount s.top (top_columns s cs)) (side_amount s.bottom (bottom_columns s cs))

-- refused for this reason unless the test holds
abbrev pub unless : Bool → ListRefusal → Result Layout ListRefusal → Result Layout ListRefusal
unless true why next = next
unless false why next = Err why

-- 13 and 14 of a list that is p+q long
unfoldable pub columns_listed : Sheet → List ℕ → Layout → Result Layout ListRefusal
columns_listed s cs n =
    unless (all_allowed s cs) Allowed
    (unless (is_zero (first_amount s cs)) (Distance (first_amount s cs))
    (Ok n))

-- what is not refused has its sheet's layout
abbrev pub with_layout : Layout → Result Unit ListRefusal → Result Layout ListRefusal
with_layout n (Ok tt) = Ok n
with_layout n (Err why) = Err why

-- "for a measurement 12, then 13 over all terminals, then 14 over all pairs"
unfoldable pub sheet_listed : Sheet → List ℕ → Layout → Result Layout ListRefusal
sheet_listed s cs n = unless (eqb (length cs) (length s.top + length s.bottom)) Count (columns_listed s cs n)

-- "Order: 1 to 5 in turn. Then terminals .. Then .. for a measurement 12": what the sheet layer refuses comes first
abbrev pub listed_as : Sheet → List ℕ → Result Layout Refusal → Result Layout ListRefusal
listed_as s cs (Ok n) = sheet_listed s cs n
listed_as s cs (Err why) = Err (Unsound why)

-- of a sheet's bytes and a column list
unfoldable pub listed_of : List ℕ → List ℕ → Result Layout ListRefusal
listed_of b cs = listed_as (sheet_of b) cs (opened_of b)
