-- Which columns fit one side: what fits a side fits the side loosened, and rising columns fit a side whose sets and ranges say nothing.
-- Assumes nothing.
use Rattle.std.proofs.Common.{◌≡◌, ℕ, ◌+◌, ◌≤◌, Bool, true, false, List, [], ◌∷◌, length, sym, refl, ◌∙◌, arith, le-leb}
use Rattle.std.proofs.Math.Bool.{and-eq-true_iff}
use Rattle.channel.specs.Sheet.{Terminal}
use Rattle.channel.specs.Assignment.{allows, later_fit, side_fits}
use Rattle.channel.specs.Word.{Letter, columns_with}
use Rattle.channel.specs.Pairs.{Alike, Looser, Free}
use Rattle.channel.specs.Cut.{count}
use Rattle.channel.proofs.Columns.{Rises, rises_bound}
use Rattle.channel.proofs.Assignments.{later_parts, side-length}
use Rattle.channel.proofs.Pins.{length-columns}

-- the test of a later terminal, from what it asks
pub later_test : (t : Terminal) (ts : List Terminal) (b c : ℕ) (cs : List ℕ)
    → allows t.allowed c ≡ true
    → b + t.least ≤ c
    → c ≤ b + t.greatest
    → later_fit ts c cs ≡ true
    → later_fit (t ∷ ts) b (c ∷ cs) ≡ true
later_test t ts b c cs h x y f = rw (h, le-leb (b + t.least) c x, le-leb c (b + t.greatest) y) f

-- a side that fits has a column for each terminal, so a word that fits has a pin for each
pub side-count : (f : Letter → Bool) (w : List Letter) (ts : List Terminal) → side_fits ts (columns_with f w) ≡ true → count f w ≡ length ts
side-count f w ts e = sym (length-columns f w) ∙ side-length ts (columns_with f w) e

-- what fits a side fits the side loosened: the terminals after the first, then the side
later_looser : (ts us : List Terminal) (b : ℕ) (cs : List ℕ) → Alike Looser false ts us → later_fit ts b cs ≡ true → later_fit us b cs ≡ true
later_looser [] [] b cs h e = e
later_looser [] (u ∷ us) b cs h e = absurd h
later_looser (t ∷ ts) [] b cs h e = absurd h
later_looser (t ∷ ts) (u ∷ us) b [] h e = e
later_looser (t ∷ ts) (u ∷ us) b (c ∷ cs) h e =
    let (a, x, y, f) = later_parts t ts b c cs e in
    later_test u us b c cs (h.0.allowed c a) (omega arith) (omega arith) (later_looser ts us c cs h.1 f)

pub side_looser : (ts us : List Terminal) (cs : List ℕ) → Alike Looser true ts us → side_fits ts cs ≡ true → side_fits us cs ≡ true
side_looser [] [] cs h e = e
side_looser [] (u ∷ us) cs h e = absurd h
side_looser (t ∷ ts) [] cs h e = absurd h
side_looser (t ∷ ts) (u ∷ us) [] h e = e
side_looser (t ∷ ts) (u ∷ us) (c ∷ cs) h e =
    let (a, f) = (and-eq-true_iff (allows t.allowed c) (later_fit ts c cs)).0 e in
    rw (h.0.allowed c a) (later_looser ts us c cs h.1 f)

-- R holds of each terminal of a side
abbrev pub Each : (Bool → Terminal → Type 0) → Bool → List Terminal → Type 0
Each R is_first [] = Unit {0}
Each R is_first (t ∷ ts) = R is_first t × Each R false ts

-- rising columns within the channel fit a side whose sets and ranges say nothing, since no two columns are more than 63 apart
later_free : (l : ℕ) → l ≤ 64 → (ts : List Terminal) (b : ℕ) (cs : List ℕ) → Each (Free l) false ts → Rises b cs l → length cs ≡ length ts
    → later_fit ts b cs ≡ true
later_free l h [] b [] f r e = refl
later_free l h [] b (c ∷ cs) f r e = absurd (omega arith)
later_free l h (t ∷ ts) b [] f r e = absurd (omega arith)
later_free l h (t ∷ ts) b (c ∷ cs) f r e =
    let below : c ≤ l = rises_bound c cs l r.1 in
    later_test t ts b c cs (f.0.allowed c (omega arith) below) (omega arith) (omega arith)
    (later_free l h ts c cs f.1 r.1 (omega arith))

pub side_free : (l : ℕ) → l ≤ 64 → (ts : List Terminal) (cs : List ℕ) → Each (Free l) true ts → Rises 0 cs l → length cs ≡ length ts
    → side_fits ts cs ≡ true
side_free l h [] [] f r e = refl
side_free l h [] (c ∷ cs) f r e = absurd (omega arith)
side_free l h (t ∷ ts) [] f r e = absurd (omega arith)
side_free l h (t ∷ ts) (c ∷ cs) f r e =
    rw (f.0.allowed c r.0 (rises_bound c cs l r.1)) (later_free l h ts c cs f.1 r.1 (omega arith))
