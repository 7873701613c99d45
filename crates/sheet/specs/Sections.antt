-- The sections of a sound sheet, and a column list beside them.
-- Assumes nothing.
use Rattle.std.specs.Prelude.{ℕ, ◌+◌, ◌≤◌, ◌≡◌, List, length}
use Rattle.channel.specs.Sheet.{Sheet}
use Rattle.std.specs.Borrow.{Bor}
use Rattle.format.specs.Parts.{OwnPart, offset_of, bytes_of, terminals_in}
use Rattle.sheet.specs.declared.Layout.{Layout}
use Rattle.sheet.specs.declared.Sections.{Sections}
use Rattle.sheet.specs.Parts.{sheet_in}

-- they are the caller's own slices, where the layout says that they stand
pub record Held (s : Bor (List ℕ)) (n : Layout) (m : Sections) : Type 0 where
  pub mark : m.mark ≡ n.mark
  pub shape : m.shape ≡ n.shape
  pub top : OwnPart s m.top (offset_of s.now n.top) (bytes_of s.now n.top)
  pub bottom : OwnPart s m.bottom (offset_of s.now n.bottom) (bytes_of s.now n.bottom)

-- the sheet that they make
abbrev pub sheet_held : Sections → Sheet
sheet_held m = sheet_in m.mark m.shape.columns m.top.now m.bottom.now

-- the list is p+q long
pub record Beside (m : Sections) (columns : List ℕ) : Type 0 where
  pub tops : m.shape.top ≡ length (terminals_in m.top.now)
  pub long : length columns ≡ m.shape.top + length (terminals_in m.bottom.now)
  pub few : length columns ≤ 128
  pub short : m.shape.columns ≤ 64
