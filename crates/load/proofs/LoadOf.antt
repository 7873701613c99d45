-- A sheet's load is that of the nets of its two sides, and where it stands in the table.
-- Assumes nothing.
use Rattle.std.proofs.Common.{ℕ, ◌≤◌, ◌≡◌, ◌∙◌, List, arith, ne_eqb}
use Rattle.std.proofs.lemmas.List.{map-append}
use Rattle.mark.specs.declared.Mark.{Mark}
use Rattle.channel.specs.Sheet.{Sheet, nets}
use Rattle.channel.specs.Density.{nets_of}
use Rattle.channel.specs.Word.{Letter}
use Rattle.channel.specs.Word.Letter.{top as T, bottom as B, both as TB}
use Rattle.channel.specs.Cut.{load}
use Rattle.arrays.specs.Loads.{load_at}
use Rattle.load.specs.Cuts.{Cell}
use Rattle.cut.specs.Counts.{load_of}

-- a sheet's load is that of the nets of its two sides
pub load_of_lem : (s : Sheet) (a : Letter) (i j : ℕ) → load s a i j ≡ load_of s.mark (nets s.top) (nets s.bottom) a i j
unfolding load load_of nets_of
load_of_lem s a i j = rw map-append

-- the bytes of the columns that can be are their loads
module _ {m : Mark} {tops bottoms loads : List ℕ} {i j : ℕ} (cell : Cell m tops bottoms loads i j) where
  pub cell-top : 1 ≤ i → load_at loads i j 0 ≡ load_of m tops bottoms T i j
  cell-top h = cell.top ∙ rw (ne_eqb i 0 (λ e. omega arith))

  pub cell-bottom : 1 ≤ j → load_at loads i j 1 ≡ load_of m tops bottoms B i j
  cell-bottom h = cell.bottom ∙ rw (ne_eqb j 0 (λ e. omega arith))

  pub cell-both : 1 ≤ i → 1 ≤ j → load_at loads i j 2 ≡ load_of m tops bottoms TB i j
  cell-both h k = cell.both ∙ rw (ne_eqb i 0 (λ e. omega arith), ne_eqb j 0 (λ e. omega arith))
