-- When a sheet is sound, and which refusal applies first (document 01, "The sheet" and "The refusal list").
-- Assumes nothing.
use Rattle.std.specs.Prelude.{ℕ, List, [], ◌∷◌, Bool, true, false, not, eqb, Result, Ok}
use Rattle.channel.specs.Sheet.{Terminal, names_above, distances_hold}
use Rattle.refusals.specs.declared.Refusal.TheVariants.{Net, Distance, Beyond}
use Rattle.refusals.specs.Refusals.{refuse, ◌or_else◌}
use Rattle.trailer.specs.declared.Part.{Part}
use Rattle.trailer.specs.Trailer.{trailer_of}
use Rattle.format.specs.Parts.{bytes_of, terminals_in}
use Rattle.refusals.specs.declared.Refusal.{Refusal}
use Rattle.form.specs.Form.{form_of}

-- 6 to 8 of one terminal
unfoldable pub terminal_check : ℕ → Bool → Terminal → Result Unit Refusal
terminal_check columns is_first t =
    refuse (eqb t.net 0) Net
    or_else refuse (not (distances_hold is_first t)) Distance
    or_else refuse (names_above columns t.allowed) Beyond

-- "each tried for 6, 7, 8 before the next terminal"
abbrev pub side_check : ℕ → Bool → List Terminal → Result Unit Refusal
side_check columns is_first [] = Ok tt
side_check columns is_first (t ∷ ts) = terminal_check columns is_first t or_else side_check columns false ts

-- the terminals of one part: of a sheet that 1 to 5 leave, its records from the offset on
abbrev pub terminals_of : List ℕ → Part → List Terminal
terminals_of b part = terminals_in (bytes_of b part)

-- "Order: 1 to 5 in turn. Then terminals, top then bottom"
unfoldable pub check_of : List ℕ → Result Unit Refusal
check_of b =
    form_of b
    or_else side_check (trailer_of b).columns true (terminals_of b (trailer_of b).top)
    or_else side_check (trailer_of b).columns true (terminals_of b (trailer_of b).bottom)
