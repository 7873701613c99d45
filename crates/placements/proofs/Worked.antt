-- The two modules of docs/FORMAT.md, computed from the definitions: their bytes, their terminals, and their only placement on 5 columns.
-- Assumes nothing.
use Rattle.std.proofs.Common.{◌≡◌, ℕ, true, false, List, [], ◌∷◌, refl}
use Rattle.little.specs.Little.{little}
use Rattle.modules.specs.Modules.{Module, side_terminals}
use Rattle.modules.specs.Bytes.{pin_at, head_in, modules_at, modules_in}
use Rattle.placements.specs.Placements.{is_placed, side_columns, side_edges}

-- width 3, left edges 1 to 3, pins of net 5 at 1 and of net 6 at 3; width 2, left edges 3 and 4, a pin of net 258 at 2
abbrev side : List ℕ
side =
    3 ∷ 2 ∷ 7 ∷ 0 ∷ 0 ∷ 0 ∷ 0 ∷ 0 ∷ 0 ∷ 0
    ∷ 1 ∷ 5 ∷ 0
    ∷ 3 ∷ 6 ∷ 0
    ∷ 2 ∷ 1 ∷ 12 ∷ 0 ∷ 0 ∷ 0 ∷ 0 ∷ 0 ∷ 0 ∷ 0
    ∷ 2 ∷ 2 ∷ 1
    ∷ []

abbrev modules : List Module
modules =
    record { width = 3; edges = 7; pins = record { offset = 1; net = 5 } ∷ record { offset = 3; net = 6 } ∷ [] }
    ∷ record { width = 2; edges = 12; pins = record { offset = 2; net = 258 } ∷ [] }
    ∷ []

pub read : modules_in side ≡ modules
unfolding modules_at head_in pin_at little
read = refl

pub terminals :
    side_terminals modules
    ≡ record { net = 5; least = 0; greatest = 0; allowed = 7 }
    ∷ record { net = 6; least = 2; greatest = 2; allowed = 28 }
    ∷ record { net = 258; least = 2; greatest = 255; allowed = 24 }
    ∷ []
terminals = refl

pub placed : is_placed modules (1 ∷ 4 ∷ []) ≡ true
unfolding is_placed
placed = refl

pub overlap : (is_placed modules (1 ∷ 3 ∷ []) ≡ false) × (is_placed modules (2 ∷ 4 ∷ []) ≡ false)
unfolding is_placed
overlap = (refl, refl)

pub there_and_back : (side_columns modules (1 ∷ 4 ∷ []) ≡ 1 ∷ 3 ∷ 5 ∷ []) × (side_edges modules (1 ∷ 3 ∷ 5 ∷ []) ≡ 1 ∷ 4 ∷ [])
there_and_back = (refl, refl)
