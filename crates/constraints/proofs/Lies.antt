-- In an assignment of a sound sheet, the list of constraints holds exactly what lies over what. The columns of a side rise, so no two of
-- its pins share one, and no net is 0: the last bottom pin in a column is its only one, and the net there is 0 exactly where there is none.
-- Assumes nothing.
use Rattle.std.proofs.Common.{◌≡◌, ℕ, ◌<◌, ◌≤◌, Bool, true, false, not, cond, ◌&&◌, ◌||◌, eqb, List, [], ◌∷◌, refl, arith, ne_eqb}
use Rattle.std.proofs.Math.Bool.{and-false, and-or_distrib_right}
use Rattle.std.proofs.lemmas.Bool.Decides.{nat_tests}
use Rattle.mark.specs.declared.Mark.{Mark}
use Rattle.channel.specs.Sheet.{Terminal, Sheet, sheet_with, Sound, SoundFrom, all_nets}
use Rattle.channel.specs.Assignment.{top_columns, bottom_columns, is_assignment}
use Rattle.channel.specs.Density.{some_pin, Pin, pins}
use Rattle.channel.proofs.Columns.{Rises}
use Rattle.channel.proofs.Assignments.{fits_rises}
use Rattle.constraints.specs.declared.Constraint.{Constraint}
use Rattle.constraints.specs.Constraints.{faces, differ, lies_over}
use Rattle.constraints.specs.Listed.{net_from, net_at, constrains, constraints_in, constraints_of, listed_over}

-- pins of nets other than 0, whose columns rise strictly from above k
abbrev PinsRise : ℕ → List Pin → Type 0
PinsRise k [] = Unit {0}
PinsRise k (p ∷ ps) = (k < p.column) × (eqb p.net 0 ≡ false) × PinsRise p.column ps

-- such are the pins of sound terminals in rising columns
pins_rise :
    (l : ℕ) (is_first : Bool) (k : ℕ) (ts : List Terminal) (cs : List ℕ) → SoundFrom l is_first ts → Rises k cs l
    → PinsRise k (pins ts cs)
pins_rise l is_first k [] cs sound h = tt
pins_rise l is_first k (t ∷ ts) [] sound h = tt
pins_rise l is_first k (t ∷ ts) (c ∷ cs) sound h = (h.0, sound.0.net, pins_rise l false c ts cs sound.1 h.1)

-- n is net b, and not 0
abbrev is_net : ℕ → ℕ → Bool
is_net n b = not (eqb n 0) && eqb n b

module _ (c b : ℕ) where
  -- a pin of net b stands in column c
  abbrev stands : List Pin → Bool
  stands = some_pin (λ (k : ℕ). eqb k c) b

  -- in a column up to k stands none of these pins, and the net from before is left
  none_before : (n k : ℕ) (ps : List Pin) → c ≤ k → PinsRise k ps → (net_from n c ps ≡ n) × (stands ps ≡ false)
  none_before n k [] low h = (refl, refl)
  none_before n k (p ∷ ps) low h =
      rw (ne_eqb p.column c (λ e. omega arith), and-false) (none_before n p.column ps (omega arith) h.2)

  -- so the net in a column is that of its one pin, and 0 where none stands
  net_at-stands : (k : ℕ) (ps : List Pin) → PinsRise k ps → is_net (net_at ps c) b ≡ stands ps
  net_at-stands k [] h = refl
  net_at-stands k (p ∷ ps) h = grind (arith, nat_tests, none_before p.net p.column ps, net_at-stands p.column ps h.2)

module _ (ns : List ℕ) (a b : ℕ) where
  -- what a top pin of net m, with net n below, adds to the list
  one_more : (m n : ℕ) (vs : List Constraint)
      → listed_over (cond (constrains ns m n) (record { over = m; under = n } ∷ vs) vs) a b
      ≡ ((eqb m a && is_net n b) && differ ns a b || listed_over vs a b)
  one_more m n vs = grind (arith, nat_tests)

  -- where `below` tells of each column which net is at the bottom, the list has each net over those that it faces and differs from
  listed-faces : (bottoms : List Pin) (below : ℕ → ℕ) → ((c : ℕ) → is_net (below c) b ≡ stands c b bottoms) → (tops : List Pin)
      → listed_over (constraints_in ns tops below) a b ≡ (faces tops bottoms a b && differ ns a b)
  listed-faces bottoms below h [] = refl
  listed-faces bottoms below h (p ∷ ps) = rw (one_more, h p.column, listed-faces bottoms below h ps, and-or_distrib_right)

pub lies-listed : (s : Sheet) → Sound s → (cs : List ℕ) → is_assignment s cs ≡ true → (a b : ℕ)
    → listed_over (constraints_of s cs) a b ≡ lies_over s cs a b
unfolding constraints_of lies_over is_assignment
lies-listed s sound cs h a b =
    let columns = (fits_rises s sound _ _ h).1 in
    let rise = pins_rise s.columns true 0 s.bottom (bottom_columns s cs) sound.bottom columns in
    listed-faces (all_nets s) a b _ _ (λ c. net_at-stands c b 0 _ rise) (pins s.top (top_columns s cs))

-- the mark plays no part in what lies over what
pub lies-marks : (m k : Mark) (l : ℕ) (ts us : List Terminal) (cs : List ℕ) → lies_over (sheet_with m l ts us) cs ≡ lies_over (sheet_with k l ts us) cs
unfolding lies_over top_columns bottom_columns
lies-marks m k l ts us cs = refl
