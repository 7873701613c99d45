-- Demand 3: what two searches return, where the second sheet is the first loosened or lengthened (document 01, "Column, crossing,
-- density"). One statement on every pair of sound sheets, whatever the buffers held.
-- Assumes nothing.
use Rattle.std.specs.Prelude.{ℕ, ◌≤◌, ◌≡◌, List, true, length}
use Rattle.channel.specs.Sheet.{Sheet}
use Rattle.channel.specs.Assignment.{is_assignment}
use Rattle.channel.specs.Pairs.{Loosened, Lengthened}
use Rattle.search.specs.declared.Both.{Both}
use Rattle.searched.specs.Numbers.{number_of, density_of}
use Rattle.search.specs.Answer.{Searches}
use Rattle.search.specs.Returned.{Gives, LongEnough}

-- "if the second is the first loosened and the first has an assignment, both searches give one, the second's least density no
-- higher; if it is the first lengthened, both give one with exactly the same least density"
pub record Kept (s t : Sheet) (number d number' d' : ℕ) (columns columns' : List ℕ) : Type 0 where
  pub loosened :
      Loosened s t → (es : List ℕ) → is_assignment s es ≡ true → Gives s number d columns × Gives t number' d' columns' × (d' ≤ d)
  pub lengthened : Lengthened s t → Gives s number d columns × Gives t number' d' columns' × (d' ≡ d)

-- the promise of two searches: each keeps its own, and of every two sound sheets demand 3 holds
pub record SearchesBoth (a b c u c' u' d v d' v' : List ℕ) (r : Both) : Type 0 where
  pub first : Searches a c u c' u' r.first
  pub second : Searches b d v d' v' r.second
  pub kept :
      (s t : Sheet) → LongEnough a s (length c) (length u) → LongEnough b t (length d) (length v)
      → Kept s t (number_of r.first) (density_of r.first) (number_of r.second) (density_of r.second) c' d'
