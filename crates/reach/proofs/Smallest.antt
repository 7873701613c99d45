-- The word that the walk writes places all pins within the bound, and no word that does so comes before it.
-- Assumes nothing.
use Rattle.std.proofs.Common.{◌≡◌, ℕ, zero, suc, pred, ◌≤◌, Bool, true, false, ◌&&◌, ◌||◌, eqb, ltb, List, [], ◌∷◌, length, sym, refl, ap, ◌∙◌, arith, ltb-false, eq-eqb}
use Rattle.std.proofs.Math.Bool.{and-eq-true_iff}
use Rattle.std.proofs.lemmas.Bool.{and_from, false≢true}
use Rattle.channel.proofs.Below.{any_below-from, any_below_to}
use Rattle.channel.specs.Sheet.{Terminal, Sheet}
use Rattle.channel.specs.Word.{Letter, rank, has_top, has_bottom, no_later}
use Rattle.channel.specs.Word.Letter.{empty, top, bottom, both}
use Rattle.channel.specs.Cut.{before}
use Rattle.reach.specs.Reach.{reach}
use Rattle.reach.specs.Greedy.{next, last_at, smallest_of, letter_fits, choice, walk_word_from}
use Rattle.reach.proofs.Rightmost.{more, last_in, OneSide, At, Back, step_back, at_column, letter_with}
use Rattle.reach.proofs.Bounds.{Held, reach-held}
use Rattle.reach.proofs.Standing.{last_of, last_of-below}
use Rattle.reach.proofs.Completed.{Done, standing-reach, stands-next, done_rest, done_more}

-- the pins still to be placed have a place: the last of each side in column c + 1 if h and g say so, and else in the columns up to c
pub record Placed (s : Sheet) (d : ℕ) (h g : Bool) (c i j x y : ℕ) : Type 0 where
  pub u : ℕ
  pub v : ℕ
  pub at_top : At h c u
  pub at_bottom : At g c v
  pub reached : reach s d i j u v ≡ true
  pub next_top : next s.top i u x ≡ true
  pub next_bottom : next s.bottom j v y ≡ true

-- a test of the last pin's column, from a column and back to one
last_at-from : (h : Bool) (c : ℕ) (f : ℕ → Bool) (u : ℕ) → At h c u → f u ≡ true → last_at h c f ≡ true
last_at-from true c f u k e = rw k at e
last_at-from false c f u k e = any_below-from (suc c) f u (omega arith) e

last_at_some : (h : Bool) (c : ℕ) (f : ℕ → Bool) → last_at h c f ≡ true → (u : ℕ) × At h c u × (f u ≡ true)
last_at_some true c f e = (suc c, refl, e)
last_at_some false c f e = let (u, k, q) = any_below_to (suc c) f e in (u, omega arith, q)

module _ (s : Sheet) (d : ℕ) where
  -- the test of a letter says that, for the columns the letter names
  pub letter_fits-from : (c i j x y : ℕ) (a : Letter) → Placed s d (has_top a) (has_bottom a) c i j x y → letter_fits s d c i j x y a ≡ true
  unfolding letter_fits
  letter_fits-from c i j x y a r =
      last_at-from (has_top a) c _ r.u r.at_top
      (last_at-from (has_bottom a) c _ r.v r.at_bottom (and_from _ _ r.reached (and_from _ _ r.next_top r.next_bottom)))

  pub letter_fits_to : (c i j x y : ℕ) (a : Letter) → letter_fits s d c i j x y a ≡ true → Placed s d (has_top a) (has_bottom a) c i j x y
  unfolding letter_fits
  letter_fits_to c i j x y a e =
      let (u, hu, f) = last_at_some (has_top a) c _ e in
      let (v, hv, g) = last_at_some (has_bottom a) c _ f in
      let (r, n) = (and-eq-true_iff (reach s d i j u v) (next s.top i u x && next s.bottom j v y)).0 g in
      let (m, o) = (and-eq-true_iff (next s.top i u x) (next s.bottom j v y)).0 n in
      record { u = u; v = v; at_top = hu; at_bottom = hv; reached = r; next_top = m; next_bottom = o }

-- where the test holds of some letter b, it holds of the smallest, which comes no later than b
pub smallest_holds :
    (f : Letter → Bool) (b : Letter) → f b ≡ true
    → let a : Letter = smallest_of (f empty) (f top) (f bottom) in (f a ≡ true) × (rank a ≤ rank b)
smallest_holds f b h = go b h (f empty) (f top) (f bottom) refl refl refl
  where
    go : (b : Letter) → f b ≡ true → (x y z : Bool) → f empty ≡ x → f top ≡ y → f bottom ≡ z
        → (f (smallest_of x y z) ≡ true) × (rank (smallest_of x y z) ≤ rank b)
    go b h true y z p q r = (p, omega arith)
    go empty h false y z p q r = absurd (false≢true (sym p ∙ h))
    go top h false true z p q r = (q, omega arith)
    go top h false false z p q r = absurd (false≢true (sym q ∙ h))
    go bottom h false true z p q r = (q, omega arith)
    go bottom h false false true p q r = (r, omega arith)
    go bottom h false false false p q r = absurd (false≢true (sym r ∙ h))
    go both h false true z p q r = (q, omega arith)
    go both h false false true p q r = (r, omega arith)
    go both h false false false p q r = (h, omega arith)

-- the pins of one side without that of column c + 1
pub before_more : (h : Bool) (i k : ℕ) → i ≡ more h k → before h i ≡ k
before_more true i k p = ap pred p
before_more false i k p = p

-- they are no more than there were
before_room : (h : Bool) (i n : ℕ) → i ≤ n → before h i ≤ n
before_room true i n k = let less : pred i ≤ n = omega arith in less
before_room false i n k = k

-- the last of these has that one, or the one it had, for its next
next-rest :
    (ts : List Terminal) (h : Bool) (c i k t x : ℕ) → i ≡ more h k → OneSide ts h c k t → next ts i (last_in h c t) x ≡ true
    → next ts (before h i) t (last_in h c x) ≡ true
next-rest ts true c i k t x p o n = rw p (stands-next ts k t (suc c) (o.fits refl))
next-rest ts false c i k t x p o n = n

-- where there is no column there is no pin
none_left : (i u : ℕ) → Held i u → u ≤ 0 → (u ≡ 0) × (i ≡ 0)
none_left i u r h = omega arith

module _ (s : Sheet) (d : ℕ) where
  -- the places that are left when a letter is taken away
  pub placed_rest :
      (c i j x y : ℕ) (a : Letter) (r : Placed s d (has_top a) (has_bottom a) c i j x y) → Back s d c a i j r.u r.v
      → Placed s d false false c (before (has_top a) i) (before (has_bottom a) j) (last_in (has_top a) c x) (last_in (has_bottom a) c y)
  placed_rest c i j x y a r o =
      record {
        u = o.t;
        v = o.b;
        at_top = o.step.top.below;
        at_bottom = o.step.bottom.below;
        reached = rw (before_more (has_top a) i o.k o.tops, before_more (has_bottom a) j o.l o.bottoms) o.step.rest;
        next_top = next-rest s.top (has_top a) c i o.k o.t x o.tops o.step.top (rw o.last_top at r.next_top);
        next_bottom =
            next-rest s.bottom (has_bottom a) c j o.l o.b y o.bottoms o.step.bottom (rw o.last_bottom at r.next_bottom);
      }

  -- where the pins have places, some letter may stand in the column furthest right
  pub some_letter : (c i j x y : ℕ) → Placed s d false false (suc c) i j x y → (a : Letter) × (letter_fits s d c i j x y a ≡ true)
  some_letter c i j x y r =
      let (h, p) = at_column c r.u r.at_top in
      let (g, q) = at_column c r.v r.at_bottom in
      let (a, m, n) = letter_with h g in (
        a,
        letter_fits-from s d c i j x y a (record {
          u = r.u;
          v = r.v;
          at_top = rw m p;
          at_bottom = rw n q;
          reached = r.reached;
          next_top = r.next_top;
          next_bottom = r.next_bottom;
        }),
      )

  -- from c columns down the walk places all pins, where they have places
  abbrev pub Walked : ℕ → Type 0
  Walked c =
      (i j x y : ℕ) → i ≤ length s.top → j ≤ length s.bottom → Placed s d false false c i j x y
      → Done s d c i j x y (walk_word_from s d c i j x y)

  -- so it does from one column more, with a letter that may stand there
  walked_more :
      (c i j x y : ℕ) (a : Letter) → i ≤ length s.top → j ≤ length s.bottom → letter_fits s d c i j x y a ≡ true → Walked c
      → Done s d (suc c) i j x y
      (a ∷ walk_word_from s d c (before (has_top a) i) (before (has_bottom a) j) (last_in (has_top a) c x) (last_in (has_bottom a) c y))
  walked_more c i j x y a p q e rest =
      let r : Placed s d (has_top a) (has_bottom a) c i j x y = letter_fits_to s d c i j x y a e in
      let o : Back s d c a i j r.u r.v = step_back s d c a i j r.u r.v r.at_top r.at_bottom r.reached in
      done_more s d c i j x y r.u r.v a _ p q o r.next_top r.next_bottom
      (rest _ _ _ _ (before_room (has_top a) i _ p) (before_room (has_bottom a) j _ q) (placed_rest c i j x y a r o))

  -- and so it does from any column
  pub walk_done : (c : ℕ) → Walked c
  unfolding walk_word_from choice
  walk_done zero i j x y p q r =
      let (m, n) = reach-held s d i j r.u r.v r.reached in
      let (a, b) = none_left i r.u m r.at_top in
      let (e, f) = none_left j r.v n r.at_bottom in
      record {
        size = refl;
        top = record { pins = sym b; room = p; stand = refl; joined = rw a at r.next_top };
        bottom = record { pins = sym f; room = q; stand = refl; joined = rw e at r.next_bottom };
        bound = omega arith;
      }
  walk_done (suc c) i j x y p q r =
      let (b, e) = some_letter c i j x y r in
      walked_more c i j x y (choice s d c i j x y) p q (smallest_holds (letter_fits s d c i j x y) b e).0 (walk_done c)

-- the last pin of a word stands in the column of its first letter, if f holds of that, and else left of it
at_last : (f : Letter → Bool) (c : ℕ) (a : Letter) (w : List Letter) → length w ≡ c → At (f a) c (last_of f (a ∷ w))
at_last f c a w size = go (f a)
  where
    go : (h : Bool) → At h c (last_in h (length w) (last_of f w))
    go true = ap suc size
    go false = omega (arith, last_of-below f w)

-- a letter from its rank
letter_of : ℕ → Letter
letter_of zero = empty
letter_of (suc zero) = top
letter_of (suc (suc zero)) = bottom
letter_of (suc (suc (suc n))) = both

letter_of-rank : (a : Letter) → letter_of (rank a) ≡ a
unfolding letter_of
letter_of-rank empty = refl
letter_of-rank top = refl
letter_of-rank bottom = refl
letter_of-rank both = refl

-- letters of the same rank are the same
pub rank_same : (a b : Letter) → rank a ≡ rank b → a ≡ b
rank_same a b e = sym (letter_of-rank a) ∙ ap letter_of e ∙ letter_of-rank b

-- of two words, that with the lower first letter comes first; with the same one, the rest decides
no_later-step :
    (a b : Letter) (v : Letter → List Letter) (w : List Letter) → rank a ≤ rank b → no_later (v b) w ≡ true
    → no_later (a ∷ v a) (b ∷ w) ≡ true
no_later-step a b v w h e = decide (ltb (rank a) (rank b)) refl
  where
    decide : (t : Bool) → ltb (rank a) (rank b) ≡ t → (t || (eqb (rank a) (rank b) && no_later (v a) w)) ≡ true
    decide true q = refl
    decide false q =
        let same : rank a ≡ rank b = omega (arith, ltb-false (rank a) (rank b) q) in
        and_from (eqb (rank a) (rank b)) (no_later (v a) w) (eq-eqb (rank a) (rank b) same) (rw (← rank_same a b same) at e)

module _ (s : Sheet) (d : ℕ) where
  -- the first letter of a word that places the pins may stand in its column
  done_fits : (c i j x y : ℕ) (a : Letter) (w : List Letter) → Done s d (suc c) i j x y (a ∷ w) → letter_fits s d c i j x y a ≡ true
  done_fits c i j x y a w r =
      let size : length w ≡ c = omega arith in
      letter_fits-from s d c i j x y a (record {
        u = last_of has_top (a ∷ w);
        v = last_of has_bottom (a ∷ w);
        at_top = at_last has_top c a w size;
        at_bottom = at_last has_bottom c a w size;
        reached = rw (r.top.pins, r.bottom.pins) at (standing-reach s d (a ∷ w) r.top.stand r.bottom.stand r.bound);
        next_top = r.top.joined;
        next_bottom = r.bottom.joined;
      })

  -- no word that places the pins comes before the walk's
  pub walk_first : (c i j x y : ℕ) (w : List Letter) → Done s d c i j x y w → no_later (walk_word_from s d c i j x y) w ≡ true
  unfolding walk_word_from choice
  walk_first zero i j x y w r = refl
  walk_first (suc c) i j x y [] r = absurd (omega (arith, r.size))
  walk_first (suc c) i j x y (b ∷ w) r =
      no_later-step (choice s d c i j x y) b
      (λ a. walk_word_from s d c (before (has_top a) i) (before (has_bottom a) j) (last_in (has_top a) c x) (last_in (has_bottom a) c y)) w
      (smallest_holds (letter_fits s d c i j x y) b (done_fits c i j x y b w r)).1
      (walk_first c (before (has_top b) i) (before (has_bottom b) j) (last_in (has_top b) c x) (last_in (has_bottom b) c y) w
      (done_rest s d c i j x y b w r))
