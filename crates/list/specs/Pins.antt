-- What the room lent to `pins` ends as, once the pins that borrow it are gone.
-- Assumes nothing.
use Rattle.std.specs.Prelude.{◌≡◌, ℕ, List, ⊤}
use Rattle.std.specs.Borrow.{follows_so, u16, unit, MutBor, Fml}
use mathlib.Core.Option.{none}
use denote.Param.{number}
use Rattle.arrayvec.specs.ArrayVec.{ArrayVec}
use Rattle.arrayvec.specs.contracts.array_vec.ArrayVec.{the_row}

-- It holds these nets. The pins only read it, so that nothing is written through them (`none`).
abbrev pub EndsAs : List ℕ → MutBor (ArrayVec ℕ) → Fml
EndsAs nets room =
    let row = the_row u16 (number 128) unit in
    follows_so row row room.ghost_name none (λ _ _. ⊤) (λ last. last.items ≡ nets)
