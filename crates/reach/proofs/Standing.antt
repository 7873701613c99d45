-- A side's columns fit exactly when, letter by letter from the left, each pin may stand where it does.
-- Assumes nothing.
use Rattle.std.proofs.Common.{◌≡◌, ℕ, suc, ◌≤◌, Bool, true, false, cond, not, ◌&&◌, ◌||◌, leb, List, [], ◌∷◌, ◌++◌, length, get_or, take, refl, append-nil, arith, length-take, take-suc}
use Rattle.std.proofs.Math.Bool.{and-true, and_assoc}
use Rattle.std.proofs.Math.Seq.{take-length}
use Rattle.std.proofs.lemmas.Bool.{lt-leb}
use Rattle.channel.specs.Sheet.{Terminal, no_terminal}
use Rattle.channel.specs.Assignment.{allows, in_range, later_fit, side_fits}
use Rattle.channel.specs.Word.{Letter, columns_with}
use Rattle.channel.specs.Cut.{count}
use Rattle.channel.proofs.Pins.{length-columns}
use Rattle.reach.specs.Reach.{stands}

-- the last of a side's columns, or b
abbrev final : ℕ → List ℕ → ℕ
final b [] = b
final b (c ∷ cs) = final c cs

final_end : (b : ℕ) (cs : List ℕ) (c : ℕ) → final b (cs ++ c ∷ []) ≡ c
final_end b [] c = refl
final_end b (e ∷ cs) c = final_end e cs c

-- one more terminal t, in column c, at the end of a side
module _ (t : Terminal) (c : ℕ) where
  later_end :
      (ts : List Terminal) (b : ℕ) (cs : List ℕ) → length ts ≡ length cs
      → later_fit (ts ++ t ∷ []) b (cs ++ c ∷ [])
      ≡ (later_fit ts b cs && (allows t.allowed c && in_range t.least t.greatest (final b cs) c))
  later_end [] b [] h = rw and-true
  later_end [] b (e ∷ cs) h = absurd (omega arith)
  later_end (x ∷ ts) b [] h = absurd (omega arith)
  later_end (x ∷ ts) b (e ∷ cs) h = rw (later_end ts e cs (omega arith)) (simp and_assoc)

  side_end :
      (ts : List Terminal) (cs : List ℕ) → length ts ≡ length cs
      → side_fits (ts ++ t ∷ []) (cs ++ c ∷ [])
      ≡ (side_fits ts cs && (allows t.allowed c && (leb (suc (length cs)) 1 || in_range t.least t.greatest (final 0 cs) c)))
  side_end [] [] h = refl
  side_end [] (e ∷ cs) h = absurd (omega arith)
  side_end (x ∷ ts) [] h = absurd (omega arith)
  side_end (x ∷ ts) (e ∷ cs) h = rw (later_end ts e cs (omega arith), lt-leb (suc (suc (length cs))) 1 (omega arith)) (simp and_assoc)

-- the column of a word's rightmost letter that f holds of, or 0
abbrev pub last_of : (Letter → Bool) → List Letter → ℕ
last_of f [] = 0
last_of f (a ∷ w) = cond (f a) (suc (length w)) (last_of f w)

-- it is one of the word's columns
pub last_of-below : (f : Letter → Bool) (w : List Letter) → last_of f w ≤ length w
last_of-below f [] = omega arith
last_of-below f (a ∷ w) = go (f a) (last_of-below f w)
  where
    go : (h : Bool) → last_of f w ≤ length w → cond h (suc (length w)) (last_of f w) ≤ suc (length w)
    go true l = omega arith
    go false l = omega arith

-- it is the last of its columns
final-columns : (f : Letter → Bool) (w : List Letter) → final 0 (columns_with f w) ≡ last_of f w
final-columns f [] = refl
final-columns f (a ∷ w) = go (f a) (final-columns f w)
  where
    go : (h : Bool) → final 0 (columns_with f w) ≡ last_of f w
        → final 0 (columns_with f w ++ cond h (suc (length w) ∷ []) []) ≡ cond h (suc (length w)) (last_of f w)
    go true e = final_end 0 (columns_with f w) (suc (length w))
    go false e = rw append-nil e

-- each letter of a word that f holds of is a pin that may stand in its column, the pin before it being the next to its left
abbrev pub standing : List Terminal → (Letter → Bool) → List Letter → Bool
standing ts f [] = true
standing ts f (a ∷ w) = standing ts f w && (not (f a) || stands ts (suc (count f w)) (last_of f w) (suc (length w)))

-- the first terminals of a side, as many as the word has pins, fit exactly then
fits-standing :
    (ts : List Terminal) (f : Letter → Bool) (w : List Letter) → count f w ≤ length ts
    → side_fits (take (count f w) ts) (columns_with f w) ≡ standing ts f w
fits-standing ts f [] h = refl
fits-standing ts f (a ∷ w) h = go (f a) h (fits-standing ts f w)
  where
    go : (h : Bool) → cond h (suc (count f w)) (count f w) ≤ length ts
        → (count f w ≤ length ts → side_fits (take (count f w) ts) (columns_with f w) ≡ standing ts f w)
        → side_fits (take (cond h (suc (count f w)) (count f w)) ts) (columns_with f w ++ cond h (suc (length w) ∷ []) [])
        ≡ (standing ts f w && (not h || stands ts (suc (count f w)) (last_of f w) (suc (length w))))
    go true l e =
        let one_each : length (take (count f w) ts) ≡ length (columns_with f w) = simp (length-take, length-columns) (omega arith) in
        rw (
          take-suc ts (count f w) no_terminal l,
          side_end (get_or ts (count f w) no_terminal) (suc (length w)) (take (count f w) ts) (columns_with f w) one_each,
          e (omega arith),
          length-columns f w,
          final-columns f w,
        )
    go false l e = rw (append-nil, and-true) (e l)

-- a side with a pin for each terminal fits exactly then
pub side-standing :
    (ts : List Terminal) (f : Letter → Bool) (w : List Letter) → count f w ≡ length ts
    → side_fits ts (columns_with f w) ≡ standing ts f w
side-standing ts f w h =
    let all : take (count f w) ts ≡ ts = rw (h, take-length) in
    rw all at (fits-standing ts f w (omega arith))
