-- Where no distance binds, the walk reads its letters off the least columns.
-- Assumes nothing.
use Rattle.std.proofs.Common.{◌≡◌, ℕ, zero, suc, ◌≤◌, ◌<◌, true, false, Bool, not, ◌||◌, leb, eqb, List, ◌∷◌, length, refl, ap, arith, le-leb, leb-true, ne_eqb, eq-eqb, true≢false}
use Rattle.std.proofs.Math.Bool.{or-true}
use Rattle.std.proofs.lemmas.Bool.{and_from, and_parts, false≢true}
use Rattle.channel.specs.Sheet.{Terminal, Sheet}
use Rattle.channel.specs.Word.{Letter, has_top, has_bottom}
use Rattle.channel.specs.Word.Letter.{empty, top, bottom}
use Rattle.channel.specs.Cut.{before, load, occupied}
use Rattle.reach.specs.Reach.{near, feasible}
use Rattle.reach.specs.Greedy.{next, letter_fits, choice, walk_word_from, walk_word}
use Rattle.reach.proofs.Rightmost.{more, last_in, At, Back, step-reach, step_back}
use Rattle.reach.proofs.Bounds.{feasible_some}
use Rattle.reach.proofs.Smallest.{Placed, letter_fits-from, letter_fits_to, smallest_holds, before_more, placed_rest, some_letter}
use Rattle.least_column.specs.LeastColumn.{allowed_to, least_column, NoneBinds, takes, by_order, order_choice, order_walk_from, order_walk}
use Rattle.least_column.proofs.Next.{Allowed}
use Rattle.least_column.proofs.Lower.{step_allowed, lower_bound}
use Rattle.least_column.proofs.Exact.{same_test, InSet, Ends, in_more, ends_step, least_ends}

-- a bound that counts only if h, as a test and back
bound_from : (h : Bool) (m d : ℕ) → (h ≡ true → m ≤ d) → (not h || leb m d) ≡ true
bound_from true m d f = le-leb m d (f refl)
bound_from false m d f = refl

bound_to : (h : Bool) (m d : ℕ) → (not h || leb m d) ≡ true → h ≡ true → m ≤ d
bound_to true m d e q = leb-true m d e
bound_to false m d e q = absurd (false≢true q)

module _ (ts : List Terminal) where
  -- one side of a letter, as a test and back
  takes_from : (h : Bool) (k c : ℕ) → (h ≡ true → allowed_to ts (suc k) c ≡ true) → takes h ts (more h k) c ≡ true
  takes_from true k c e = rw (ne_eqb (suc k) 0 (λ q. omega arith)) (e refl)
  takes_from false k c e = refl

  takes_to :
      (h : Bool) (i c : ℕ) → takes h ts i c ≡ true
      → (i ≡ more h (before h i)) × (h ≡ true → allowed_to ts (suc (before h i)) c ≡ true)
  takes_to true zero c e = absurd (false≢true e)
  takes_to true (suc i) c e = (refl, λ q. (and_parts (not (eqb (suc i) 0)) _ e).1)
  takes_to false i c e = (refl, λ q. absurd (false≢true q))

  -- the next pin, where the walk has come down to column c with i pins still to be placed: it stands right of c, in its set
  abbrev pub Ahead : ℕ → ℕ → ℕ → Type 0
  Ahead c i x = eqb i (length ts) ≡ false → (c < x) × (allowed_to ts (suc i) x ≡ true)

  -- where no distance binds, any column up to c is in its range
  free_next : NoneBinds ts → (c i u x : ℕ) → u ≤ c → InSet ts i u → Ahead c i x → next ts i u x ≡ true
  free_next free c i u x h k w = decide (eqb i (length ts)) refl
    where
      far : (i : ℕ) → InSet ts i u → (c < x) × (allowed_to ts (suc i) x ≡ true) → near ts (suc i) u x ≡ true
      far zero k w = refl
      far (suc i) k (n, e) = rw (free.ranges i u x (omega arith) (k (omega arith)) e) (or-true (leb (suc (suc i)) 1))

      decide : (t : Bool) → eqb i (length ts) ≡ t → (t || near ts (suc i) u x) ≡ true
      decide true q = refl
      decide false q = far i k (w q)

  -- the next pin after a letter in column c + 1
  ahead_rest :
      (h : Bool) (c i x : ℕ) → Ahead (suc c) i x → (h ≡ true → allowed_to ts (suc (before h i)) (suc c) ≡ true)
      → Ahead c (before h i) (last_in h c x)
  ahead_rest true c i x w e = λ q. (omega arith, e refl)
  ahead_rest false c i x w e = λ q. let (n, m) = w q in (omega arith, m)

-- what the test by order says: k and l pins are left of column c + 1, which may hold the letter, and they have room there
record Ordered (s : Sheet) (d c i j : ℕ) (a : Letter) : Type 0 where
  pub k : ℕ
  pub l : ℕ
  pub tops : i ≡ more (has_top a) k
  pub bottoms : j ≡ more (has_bottom a) l
  pub allowed : Allowed s d a k l (suc c)
  pub room : least_column s d k l ≤ c

module _ (s : Sheet) (d : ℕ) where
  by_order-from : (c i j : ℕ) (a : Letter) → Ordered s d c i j a → by_order s d c i j a ≡ true
  unfolding by_order
  by_order-from c i j a r =
      rw (r.tops, r.bottoms)
      (and_from _ _ (bound_from (occupied a) _ d r.allowed.within)
      (and_from _ _ (takes_from s.top (has_top a) r.k (suc c) r.allowed.top)
      (and_from _ _ (takes_from s.bottom (has_bottom a) r.l (suc c) r.allowed.bottom)
      (rw (before_more (has_top a) _ r.k refl, before_more (has_bottom a) _ r.l refl) (le-leb _ c r.room)))))

  by_order_to : (c i j : ℕ) (a : Letter) → by_order s d c i j a ≡ true → Ordered s d c i j a
  unfolding by_order
  by_order_to c i j a e =
      let (p, f) = and_parts (not (occupied a) || leb (load s a i j) d) _ e in
      let (q, g) = and_parts (takes (has_top a) s.top i (suc c)) _ f in
      let (r, h) = and_parts (takes (has_bottom a) s.bottom j (suc c)) _ g in
      let (tops, t) = takes_to s.top (has_top a) i (suc c) q in
      let (bottoms, b) = takes_to s.bottom (has_bottom a) j (suc c) r in
      record {
        k = before (has_top a) i;
        l = before (has_bottom a) j;
        tops = tops;
        bottoms = bottoms;
        allowed = record { top = t; bottom = b; within = rw (← tops, ← bottoms) (bound_to (occupied a) (load s a i j) d p) };
        room = leb-true _ c h;
      }

  -- a letter that may stand in column c + 1 passes the test by order
  to_order : (c i j x y : ℕ) (a : Letter) → suc c ≤ s.columns → letter_fits s d c i j x y a ≡ true → by_order s d c i j a ≡ true
  to_order c i j x y a n e =
      let r : Placed s d (has_top a) (has_bottom a) c i j x y = letter_fits_to s d c i j x y a e in
      let o : Back s d c a i j r.u r.v = step_back s d c a i j r.u r.v r.at_top r.at_bottom r.reached in
      let (t, b) : (o.t ≤ c) × (o.b ≤ c) = (o.step.top.below, o.step.bottom.below) in
      by_order-from c i j a (record {
        k = o.k;
        l = o.l;
        tops = o.tops;
        bottoms = o.bottoms;
        allowed = step_allowed s d c a o.k o.l o.t o.b o.step;
        room = omega (arith, t, b, n, lower_bound s d o.k o.l o.t o.b (omega arith) (omega arith) o.step.rest);
      })

module _ (s : Sheet) (free_top : NoneBinds s.top) (free_bottom : NoneBinds s.bottom) (d : ℕ) where
  -- and back: the pins that are left can be placed up to column c
  fits_more :
      (c x y : ℕ) (a : Letter) (k l m : ℕ) → Ends s d k l m → m ≤ c → Allowed s d a k l (suc c)
      → Ahead s.top (suc c) (more (has_top a) k) x → Ahead s.bottom (suc c) (more (has_bottom a) l) y
      → letter_fits s d c (more (has_top a) k) (more (has_bottom a) l) x y a ≡ true
  fits_more c x y a k l m p low r wt wb =
      let hu : At (has_top a) c (last_in (has_top a) c p.u) = at_last (has_top a) p.u (omega (arith, p.top_below)) in
      let hv : At (has_bottom a) c (last_in (has_bottom a) c p.v) = at_last (has_bottom a) p.v (omega (arith, p.bottom_below)) in
      letter_fits-from s d c _ _ x y a (record {
        u = last_in (has_top a) c p.u;
        v = last_in (has_bottom a) c p.v;
        at_top = hu;
        at_bottom = hv;
        reached = step-reach s d c a k l p.u p.v (ends_step s free_top free_bottom d a k l m c p low r);
        next_top =
            free_next s.top free_top (suc c) _ _ x (at_below (has_top a) _ hu) (in_more s.top (has_top a) c k p.u p.in_top r.top) wt;
        next_bottom =
            free_next s.bottom free_bottom (suc c) _ _ y (at_below (has_bottom a) _ hv)
            (in_more s.bottom (has_bottom a) c l p.v p.in_bottom r.bottom) wb;
      })
    where
      at_last : (h : Bool) (t : ℕ) → t ≤ c → At h c (last_in h c t)
      at_last true t n = refl
      at_last false t n = n

      at_below : (h : Bool) (u : ℕ) → At h c u → u ≤ suc c
      at_below true u e = omega arith
      at_below false u e = omega arith

  -- so the two tests are the same
  fits_by_order :
      (c i j x y : ℕ) → suc c ≤ s.columns → Ahead s.top (suc c) i x → Ahead s.bottom (suc c) j y
      → (a : Letter) → letter_fits s d c i j x y a ≡ by_order s d c i j a
  fits_by_order c i j x y n wt wb a = same_test _ _ (to_order s d c i j x y a n) (λ e. back (by_order_to s d c i j a e))
    where
      back : Ordered s d c i j a → letter_fits s d c i j x y a ≡ true
      back r =
          rw (r.tops, r.bottoms)
          (fits_more c x y a r.k r.l (least_column s d r.k r.l) (least_ends s free_top free_bottom d r.k r.l (omega (arith, r.room))) r.room
          r.allowed (rw r.tops at wt) (rw r.bottoms at wb))

  -- from c columns down the two walks are the same, where the pins have places
  Same : ℕ → Type 0
  Same c =
      (i j x y : ℕ) → c ≤ s.columns → Ahead s.top c i x → Ahead s.bottom c j y → Placed s d false false c i j x y
      → walk_word_from s d c i j x y ≡ order_walk_from s d c i j

  -- so they are after a letter that may stand in column c + 1
  same_more :
      (c i j x y : ℕ) (a : Letter) → suc c ≤ s.columns → Ahead s.top (suc c) i x → Ahead s.bottom (suc c) j y
      → letter_fits s d c i j x y a ≡ true → Same c
      → walk_word_from s d c (before (has_top a) i) (before (has_bottom a) j) (last_in (has_top a) c x) (last_in (has_bottom a) c y)
      ≡ order_walk_from s d c (before (has_top a) i) (before (has_bottom a) j)
  unfolding Same
  same_more c i j x y a n wt wb e rest =
      let r : Placed s d (has_top a) (has_bottom a) c i j x y = letter_fits_to s d c i j x y a e in
      let o : Back s d c a i j r.u r.v = step_back s d c a i j r.u r.v r.at_top r.at_bottom r.reached in
      let p : Allowed s d a o.k o.l (suc c) = step_allowed s d c a o.k o.l o.t o.b o.step in
      rest _ _ _ _ (omega arith)
      (ahead_rest s.top (has_top a) c i x wt (rw (before_more (has_top a) i o.k o.tops) p.top))
      (ahead_rest s.bottom (has_bottom a) c j y wb (rw (before_more (has_bottom a) j o.l o.bottoms) p.bottom))
      (placed_rest s d c i j x y a r o)

  same_walk : (c : ℕ) → Same c
  unfolding Same walk_word_from choice order_walk_from order_choice
  same_walk zero i j x y n wt wb r = refl
  same_walk (suc c) i j x y n wt wb r =
      let (b, e) = some_letter s d c i j x y r in
      let a : Letter = choice s d c i j x y in
      let same : a ≡ order_choice s d c i j =
      rw (fits_by_order c i j x y n wt wb empty, fits_by_order c i j x y n wt wb top, fits_by_order c i j x y n wt wb bottom) refl in
      rw (← same)
      (ap (λ (w : List Letter). a ∷ w)
      (same_more c i j x y a n wt wb (smallest_holds (letter_fits s d c i j x y) b e).0 (same_walk c)))

  -- so where all pins can be placed, the walk is the walk by order
  pub walk_by_order : feasible s d ≡ true → walk_word s d ≡ order_walk s d
  unfolding walk_word order_walk Same
  walk_by_order f =
      let (u, v, hu, hv, r) = feasible_some s d f in
      same_walk s.columns (length s.top) (length s.bottom) 0 0 (omega arith) (none s.top) (none s.bottom)
      (record { u = u; v = v; at_top = hu; at_bottom = hv; reached = r; next_top = last s.top u; next_bottom = last s.bottom v })
    where
      last : (ts : List Terminal) (u : ℕ) → next ts (length ts) u 0 ≡ true
      last ts u = rw (eq-eqb (length ts) (length ts) refl) refl

      none : (ts : List Terminal) → Ahead ts s.columns (length ts) 0
      none ts e = absurd (true≢false (rw (eq-eqb (length ts) (length ts) refl) at e))
