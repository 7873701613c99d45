-- Sheets of the starred table that end in CQ, beside it (document 02, T-07), as one statement.
-- Assumes nothing.
use Rattle.std.specs.Prelude.{◌≡◌, [], ◌∷◌, drop, pos}
use Rattle.mark.specs.declared.Mark.TheVariants.{Cq}
use Rattle.starred.specs.Sheets.{sheet_a_with, straight_with, three_pins_with}
use Rattle.starred.specs.Table.{Gives, Measures, ranks, Assigned}

-- each search has just the buffers that its sheet needs
pub record Counted : Type 0 where
  -- "Its sheets end in CQ"
  pub sheet_a_trailer :
      drop 48 (sheet_a_with Cq 3) ≡ 0x00 ∷ 0x00 ∷ 0x02 ∷ 0x00 ∷ 0x18 ∷ 0x00 ∷ 0x02 ∷ 0x00 ∷ 0x03 ∷ 0x00 ∷ 0x43 ∷ 0x51 ∷ []
  -- A: with its straight wire the best assignment under CP has density 2 now, as every other has, and the first of all words decides
  pub sheet_a_3 : Gives (sheet_a_with Cq 3) 4 144 2 (1 ∷ 2 ∷ 1 ∷ 2 ∷ [])
  pub sheet_a_word : ranks (sheet_a_with Cq 3) (1 ∷ 2 ∷ 1 ∷ 2 ∷ []) ≡ 0 ∷ 3 ∷ 3 ∷ []
  pub best_of_CP : Assigned (sheet_a_with Cq 3) (2 ∷ 3 ∷ 1 ∷ 2 ∷ []) 2
  pub sheet_a_2 : Gives (sheet_a_with Cq 2) 4 81 2 (1 ∷ 2 ∷ 1 ∷ 2 ∷ [])
  pub sheet_a_4 : Gives (sheet_a_with Cq 4) 4 225 2 (1 ∷ 2 ∷ 1 ∷ 2 ∷ [])
  -- one top and one bottom pin of a net in the one column: it counts
  pub one_and_one : Gives (straight_with Cq) 2 16 1 (1 ∷ 1 ∷ [])
  -- a net of three pins is no straight wire
  pub three_pins : Gives (three_pins_with Cq) 3 54 1 (1 ∷ 2 ∷ 1 ∷ [])
  -- measuring on A: a straight wire counts in its column, and nothing else has changed
  pub measured_straight : Measures (sheet_a_with Cq 3) (1 ∷ 2 ∷ 2 ∷ 3 ∷ []) 0 2 (pos 0)
  pub measured_2 : Measures (sheet_a_with Cq 3) (1 ∷ 2 ∷ 1 ∷ 2 ∷ []) 0 2 (pos 0)
