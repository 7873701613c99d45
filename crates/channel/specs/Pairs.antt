-- When a sheet is another one loosened or lengthened (document 01, "Column, crossing, density"; document 02, T-07).
-- Assumes nothing.
use Rattle.std.specs.Prelude.{ℕ, ◌+◌, ◌≤◌, ◌≡◌, List, [], ◌∷◌, Bool, true, false, length}
use Rattle.channel.specs.Sheet.{Terminal, Sheet}
use Rattle.channel.specs.Assignment.{allows}
use Rattle.channel.specs.Best.{best}
use Rattle.channel.specs.Best.Found.{found}

-- two sides have the same number of terminals, and R holds of each two in the same place; R's first argument says whether that is the first
abbrev pub Alike : (Bool → Terminal → Terminal → Type 0) → Bool → List Terminal → List Terminal → Type 0
Alike R is_first [] [] = Unit {0}
Alike R is_first [] (u ∷ us) = ⊥
Alike R is_first (t ∷ ts) [] = ⊥
Alike R is_first (t ∷ ts) (u ∷ us) = R is_first t u × Alike R false ts us

-- "Loosening and lengthening keep the mark"
abbrev pub SameMark : Sheet → Sheet → Type 0
SameMark s t = s.mark ≡ t.mark

-- "each later record's least distance is no greater and its greatest no smaller"
abbrev pub Wider : Bool → Terminal → Terminal → Type 0
Wider true t u = Unit {0}
Wider false t u = (u.least ≤ t.least) × (t.greatest ≤ u.greatest)

pub record Looser (is_first : Bool) (t u : Terminal) : Type 0 where
  pub net : t.net ≡ u.net
  pub allowed : (c : ℕ) → allows t.allowed c ≡ true → allows u.allowed c ≡ true
  pub distances : Wider is_first t u

-- "the second is the first loosened"
pub record Loosened (s t : Sheet) : Type 0 where
  pub mark : SameMark s t
  pub columns : s.columns ≤ t.columns
  pub top : Alike Looser true s.top t.top
  pub bottom : Alike Looser true s.bottom t.bottom

-- "each set .. holds every column from 1 to its own L, each later range .. is 1 to 255"
abbrev pub Unbounded : Bool → Terminal → Type 0
Unbounded true t = Unit {0}
Unbounded false t = (t.least ≡ 1) × (t.greatest ≡ 255)

pub record Free (columns : ℕ) (is_first : Bool) (t : Terminal) : Type 0 where
  pub allowed : (c : ℕ) → 1 ≤ c → c ≤ columns → allows t.allowed c ≡ true
  pub distances : Unbounded is_first t

pub record BothFree (l m : ℕ) (is_first : Bool) (t u : Terminal) : Type 0 where
  pub net : t.net ≡ u.net
  pub first : Free l is_first t
  pub second : Free m is_first u

-- "It is the first lengthened"
pub record Lengthened (s t : Sheet) : Type 0 where
  pub mark : SameMark s t
  pub columns : s.columns ≤ t.columns
  pub room : length s.top + length s.bottom ≤ s.columns
  pub top : Alike (BothFree s.columns t.columns) true s.top t.top
  pub bottom : Alike (BothFree s.columns t.columns) true s.bottom t.bottom

-- Demand 3 of two sheets: loosened keeps existence and does not raise the least density; lengthened gives existence on both
-- and the same least density
pub record LeastKept (s t : Sheet) : Type 0 where
  pub loosened :
      Loosened s t → (d : ℕ) (cs : List ℕ) → best s ≡ found d cs → (e : ℕ) × (es : List ℕ) × (best t ≡ found e es) × (e ≤ d)
  pub lengthened :
      Lengthened s t → (d : ℕ) × (cs : List ℕ) × (es : List ℕ) × (best s ≡ found d cs) × (best t ≡ found d es)
