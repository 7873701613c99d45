-- The loads of all cuts of two sides, and the table that they stand in.
-- Assumes nothing.
use Rattle.std.specs.Prelude.{ℕ, ◌≤◌, ◌≡◌, List, ◌++◌, cond, ◌||◌, length, eqb}
use Rattle.channel.specs.Word.Letter.{top as T, bottom as B, both as TB}
use Rattle.channel.specs.Density.{straight}
use Rattle.mark.specs.declared.Mark.{Mark}
use Rattle.cut.specs.Counts.{load_of}
use Rattle.places.specs.Places.{ListedPins}
use Rattle.places.specs.declared.PinPlaces.{PinPlaces}
use Rattle.arrays.specs.Rules.{pins}
use Rattle.arrays.specs.Loads.{load_at}
use Rattle.arrays.specs.declared.Loads.{Loads}

-- the loads of the cut (i, j) on a sheet with this mark, of a column with a top pin only, a bottom pin only, and both.
-- A column with a top pin has i ≥ 1, and one with a bottom pin has j ≥ 1: where there is no such column, the byte is 0.
pub record Cell (m : Mark) (tops bottoms loads : List ℕ) (i j : ℕ) : Type 0 where
  pub top : load_at loads i j 0 ≡ cond (eqb i 0) 0 (load_of m tops bottoms T i j)
  pub bottom : load_at loads i j 1 ≡ cond (eqb j 0) 0 (load_of m tops bottoms B i j)
  pub both : load_at loads i j 2 ≡ cond (eqb i 0 || eqb j 0) 0 (load_of m tops bottoms TB i j)

-- the same of three loads that are still to be put in
pub record CutLoads (m : Mark) (tops bottoms : List ℕ) (i j : ℕ) (l : Loads) : Type 0 where
  pub top : l.top ≡ cond (eqb i 0) 0 (load_of m tops bottoms T i j)
  pub bottom : l.bottom ≡ cond (eqb j 0) 0 (load_of m tops bottoms B i j)
  pub both : l.both ≡ cond (eqb i 0 || eqb j 0) 0 (load_of m tops bottoms TB i j)

-- the loads of all cuts put into the table `old`: with p top and q bottom pins, i up to p and j up to q. The loads of all
-- other cuts are as they were.
pub record LoadsRead (m : Mark) (tops bottoms old new : List ℕ) : Type 0 where
  pub size : length new ≡ length old
  pub cell : (i j : ℕ) → i ≤ length tops → j ≤ length bottoms → Cell m tops bottoms new i j
  pub others :
      (i j letter : ℕ) → j ≤ pins → letter ≤ 2 → (i ≤ length tops → j ≤ length bottoms → ⊥) → load_at new i j letter ≡ load_at old i j letter

-- the same of some cuts: those that `cuts` names
pub record Written (m : Mark) (tops bottoms old new : List ℕ) (cuts : ℕ → ℕ → Type 0) : Type 0 where
  pub size : length new ≡ length old
  pub cell : (i j : ℕ) → cuts i j → Cell m tops bottoms new i j
  pub others : (i j letter : ℕ) → j ≤ pins → letter ≤ 2 → (cuts i j → ⊥) → load_at new i j letter ≡ load_at old i j letter

-- the numbers of the pins of two sides, on a sheet with this mark
pub record Listed (m : Mark) (tops bottoms : List ℕ) (top_pins bottom_pins : List PinPlaces) : Type 0 where
  pub few : (length tops ≤ pins) × (length bottoms ≤ pins)
  pub top : ListedPins (straight m (tops ++ bottoms)) tops bottoms top_pins
  pub bottom : ListedPins (straight m (tops ++ bottoms)) bottoms tops bottom_pins
