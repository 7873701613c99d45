-- Words that place the pins still to be placed: what they say of their first letter and of the rest, and that `reach` knows of them.
-- Assumes nothing.
use Rattle.std.proofs.Common.{◌≡◌, ℕ, suc, pred, ◌<◌, ◌≤◌, max, Bool, true, false, cond, not, ◌||◌, eqb, List, [], ◌∷◌, length, refl, ap, ◌∙◌, arith, ne_eqb}
use Rattle.std.proofs.Math.Bool.{or-true, and-eq-true_iff}
use Rattle.std.proofs.lemmas.Bool.{and_from, false≢true}
use Rattle.channel.specs.Sheet.{Terminal, Sheet}
use Rattle.channel.specs.Assignment.{allows}
use Rattle.channel.specs.Word.{Letter, has_top, has_bottom}
use Rattle.channel.specs.Cut.{count, before, occupied, first_load, word_load}
use Rattle.reach.specs.Reach.{terminal_number, near, stands, reach}
use Rattle.reach.specs.Greedy.{next}
use Rattle.reach.proofs.Reaches.{reach-none}
use Rattle.reach.proofs.Rightmost.{more, last_in, OneSide, step-reach, Back}
use Rattle.reach.proofs.Standing.{last_of, last_of-below, standing}

-- one side of a word: i pins, each where it may stand, the last of them far enough from the next one, in x
pub record SideDone (ts : List Terminal) (f : Letter → Bool) (i x : ℕ) (w : List Letter) : Type 0 where
  pub pins : count f w ≡ i
  pub room : i ≤ length ts
  pub stand : standing ts f w ≡ true
  pub joined : next ts i (last_of f w) x ≡ true

-- a word for the columns c down to 1 that places i top and j bottom pins, the next ones standing in x and y, with no load above d
pub record Done (s : Sheet) (d c i j x y : ℕ) (w : List Letter) : Type 0 where
  pub size : length w ≡ c
  pub top : SideDone s.top has_top i x w
  pub bottom : SideDone s.bottom has_bottom j y w
  pub bound : word_load s w ≤ d

-- a test that counts only if h
if_there : (h x : Bool) → (not h || x) ≡ true → h ≡ true → x ≡ true
if_there true x e q = e
if_there false x e q = absurd (false≢true q)

-- one side of a word's first letter
side-first :
    (ts : List Terminal) (f : Letter → Bool) (a : Letter) (w : List Letter) → standing ts f (a ∷ w) ≡ true
    → OneSide ts (f a) (length w) (count f w) (last_of f w)
side-first ts f a w e =
    let pin : Bool = stands ts (suc (count f w)) (last_of f w) (suc (length w)) in
    record { below = last_of-below f w; fits = if_there (f a) pin ((and-eq-true_iff (standing ts f w) (not (f a) || pin)).0 e).1 }

-- the load of a word's first letter, where it is occupied, and of the rest
bound_parts : (s : Sheet) (d : ℕ) (a : Letter) (w : List Letter) → word_load s (a ∷ w) ≤ d
    → (occupied a ≡ true → first_load s a w ≤ d) × (word_load s w ≤ d)
bound_parts s d a w h = (λ q. let k = rw q at h in omega arith, omega arith)

-- pins that stand where they may are where `reach` says they can be
pub standing-reach :
    (s : Sheet) (d : ℕ) (w : List Letter)
    → standing s.top has_top w ≡ true → standing s.bottom has_bottom w ≡ true → word_load s w ≤ d
    → reach s d (count has_top w) (count has_bottom w) (last_of has_top w) (last_of has_bottom w) ≡ true
standing-reach s d [] x y h = reach-none s d 0 0
standing-reach s d (a ∷ w) x y h =
    let (here, left) = bound_parts s d a w h in
    step-reach s d (length w) a (count has_top w) (count has_bottom w) (last_of has_top w) (last_of has_bottom w) (record {
      top = side-first s.top has_top a w x;
      bottom = side-first s.bottom has_bottom a w y;
      within = here;
      rest = standing-reach s d w ((and-eq-true_iff _ _).0 x).0 ((and-eq-true_iff _ _).0 y).0 left;
    })

-- a pin that may stand in a column is allowed there, and far enough from the one before it
stands_parts :
    (ts : List Terminal) (i t u : ℕ) → stands ts i t u ≡ true
    → (allows (terminal_number ts i).allowed u ≡ true) × (near ts i t u ≡ true)
stands_parts ts i t u e = (and-eq-true_iff (allows (terminal_number ts i).allowed u) (near ts i t u)).0 e

-- so the one before it has it for its next
pub stands-next : (ts : List Terminal) (k t u : ℕ) → stands ts (suc k) t u ≡ true → next ts k t u ≡ true
stands-next ts k t u e = rw (stands_parts ts (suc k) t u e).1 (or-true (eqb k (length ts)))

-- one side of the rest of a word
side-rest :
    (ts : List Terminal) (f : Letter → Bool) (i x : ℕ) (a : Letter) (w : List Letter) → SideDone ts f i x (a ∷ w)
    → SideDone ts f (before (f a) i) (last_in (f a) (length w) x) w
side-rest ts f i x a w r =
    let (stand, here) = (and-eq-true_iff (standing ts f w) _).0 r.stand in
    go (f a) r.pins (side-first ts f a w r.stand).fits r.joined stand
  where
    go : (h : Bool) → more h (count f w) ≡ i
        → (h ≡ true → stands ts (suc (count f w)) (last_of f w) (suc (length w)) ≡ true)
        → next ts i (last_in h (length w) (last_of f w)) x ≡ true
        → standing ts f w ≡ true
        → SideDone ts f (before h i) (last_in h (length w) x) w
    go true p q n e =
        record {
          pins = ap pred p;
          room = omega (arith, ap pred p);
          stand = e;
          joined = rw (← p) (stands-next ts (count f w) (last_of f w) (suc (length w)) (q refl));
        }
    go false p q n e = record { pins = p; room = r.room; stand = e; joined = n }

-- the next pin is there and far enough: its distance is in range
next-near : (ts : List Terminal) (k t u : ℕ) → k < length ts → next ts k t u ≡ true → near ts (suc k) t u ≡ true
next-near ts k t u h e = rw (ne_eqb k (length ts) (λ q. omega arith)) at e

-- one side of a word with one letter more
side-more :
    (ts : List Terminal) (f : Letter → Bool) (c i k t x : ℕ) (a : Letter) (w : List Letter)
    → i ≡ more (f a) k → i ≤ length ts → OneSide ts (f a) c k t → next ts i (last_in (f a) c t) x ≡ true → length w ≡ c
    → SideDone ts f (before (f a) i) (last_in (f a) c x) w → SideDone ts f i x (a ∷ w)
side-more ts f c i k t x a w p room o n size r =
    let (pins, here, joined) = go (f a) p o.fits n r in
    record { pins = pins; room = room; stand = and_from _ _ r.stand here; joined = joined }
  where
    go : (h : Bool) → i ≡ more h k → (h ≡ true → stands ts (suc k) t (suc c) ≡ true) → next ts i (last_in h c t) x ≡ true
        → SideDone ts f (before h i) (last_in h c x) w
        → (more h (count f w) ≡ i) × ((not h || stands ts (suc (count f w)) (last_of f w) (suc (length w))) ≡ true)
        × (next ts i (last_in h (length w) (last_of f w)) x ≡ true)
    go true p q n r =
        let same : count f w ≡ k = r.pins ∙ ap pred p in
        let far : next ts k (last_of f w) (suc c) ≡ true = rw p at r.joined in
        let in_set : allows (terminal_number ts (suc k)).allowed (suc c) ≡ true = (stands_parts ts (suc k) t (suc c) (q refl)).0 in
        let here : stands ts (suc k) (last_of f w) (suc c) ≡ true = rw in_set (next-near ts k (last_of f w) (suc c) (omega arith) far) in
        (omega arith, rw (same, size) here, rw size n)
    go false p q n r = (r.pins, refl, r.joined)

-- the rest of a word places the pins that its first letter leaves
pub done_rest :
    (s : Sheet) (d c i j x y : ℕ) (a : Letter) (w : List Letter) → Done s d (suc c) i j x y (a ∷ w)
    → Done s d c (before (has_top a) i) (before (has_bottom a) j) (last_in (has_top a) c x) (last_in (has_bottom a) c y) w
done_rest s d c i j x y a w r =
    let size : length w ≡ c = omega arith in
    record {
      size = size;
      top = rw size at (side-rest s.top has_top i x a w r.top);
      bottom = rw size at (side-rest s.bottom has_bottom j y a w r.bottom);
      bound = (bound_parts s d a w r.bound).1;
    }

-- the load of a word, from that of its first letter and of the rest
bound_more :
    (s : Sheet) (d : ℕ) (a : Letter) (w : List Letter) → (occupied a ≡ true → first_load s a w ≤ d) → word_load s w ≤ d
    → word_load s (a ∷ w) ≤ d
bound_more s d a w here left = go (occupied a) (first_load s a w) here
  where
    go : (h : Bool) (m : ℕ) → (h ≡ true → m ≤ d) → max (cond h m 0) (word_load s w) ≤ d
    go true m k = omega (arith, k refl)
    go false m k = omega arith

-- a word with one letter more, where that letter may stand in its column, places the pins of that letter too
pub done_more :
    (s : Sheet) (d c i j x y u v : ℕ) (a : Letter) (w : List Letter) → i ≤ length s.top → j ≤ length s.bottom
    → Back s d c a i j u v → next s.top i u x ≡ true → next s.bottom j v y ≡ true
    → Done s d c (before (has_top a) i) (before (has_bottom a) j) (last_in (has_top a) c x) (last_in (has_bottom a) c y) w
    → Done s d (suc c) i j x y (a ∷ w)
done_more s d c i j x y u v a w p q o m n r =
    let tops : SideDone s.top has_top i x (a ∷ w) =
    side-more s.top has_top c i o.k o.t x a w o.tops p o.step.top (rw o.last_top at m) r.size r.top in
    let bottoms : SideDone s.bottom has_bottom j y (a ∷ w) =
    side-more s.bottom has_bottom c j o.l o.b y a w o.bottoms q o.step.bottom
    (rw o.last_bottom at n) r.size r.bottom in
    record {
      size = ap suc r.size;
      top = tops;
      bottom = bottoms;
      bound = bound_more s d a w (λ z. rw (tops.pins, bottoms.pins, o.tops, o.bottoms) (o.step.within z)) r.bound;
    }
