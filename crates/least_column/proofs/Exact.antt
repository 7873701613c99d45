-- Where no distance binds, the pins can be placed up to the least column.
-- Assumes nothing.
use Rattle.std.proofs.Common.{◌≡◌, ℕ, zero, suc, ◌≤◌, ◌<◌, true, false, Bool, leb, List, length, sym, refl, arith, le-leb, leb-true}
use Rattle.std.proofs.Math.Bool.{or-true}
use Rattle.std.proofs.lemmas.Bool.{and_from}
use Rattle.channel.specs.Sheet.{Terminal, Sheet}
use Rattle.channel.specs.Word.{Letter, has_top, has_bottom}
use Rattle.reach.specs.Reach.{stands, reach, feasible}
use Rattle.reach.proofs.Reaches.{reach-none}
use Rattle.reach.proofs.Rightmost.{more, last_in, OneSide, Step, step-reach}
use Rattle.reach.proofs.Bounds.{feasible-from}
use Rattle.least_column.specs.LeastColumn.{allowed_to, least_column, last_column, NoneBinds}
use Rattle.least_column.proofs.Next.{Allowed, least_induction}
use Rattle.least_column.proofs.Lower.{feasible_least}

-- two tests that hold of the same are the same
pub same_test : (x y : Bool) → (x ≡ true → y ≡ true) → (y ≡ true → x ≡ true) → x ≡ y
same_test true y f g = sym (f refl)
same_test false true f g = g refl
same_test false false f g = refl

-- the last of i pins is in its set
abbrev pub InSet : List Terminal → ℕ → ℕ → Type 0
InSet ts i u = 1 ≤ i → allowed_to ts i u ≡ true

-- i and j pins can be placed in the columns up to c, the last ones in u and v, in their sets
pub record Ends (s : Sheet) (d i j c : ℕ) : Type 0 where
  pub u : ℕ
  pub v : ℕ
  pub top_below : u ≤ c
  pub bottom_below : v ≤ c
  pub reached : reach s d i j u v ≡ true
  pub in_top : InSet s.top i u
  pub in_bottom : InSet s.bottom j v

module _ (ts : List Terminal) where
  -- where no distance binds, a pin may stand in any column of its set right of the one before it
  free_stands :
      NoneBinds ts → (k t u : ℕ) → t < u → InSet ts k t → allowed_to ts (suc k) u ≡ true → stands ts (suc k) t u ≡ true
  free_stands free zero t u h i e = and_from _ _ e refl
  free_stands free (suc k) t u h i e = and_from _ _ e (rw (free.ranges k t u h (i (omega arith)) e) (or-true (leb (suc (suc k)) 1)))

  -- one side of a letter in column c + 1
  free_side :
      NoneBinds ts → (h : Bool) (c k t : ℕ) → t ≤ c → InSet ts k t → (h ≡ true → allowed_to ts (suc k) (suc c) ≡ true)
      → OneSide ts h c k t
  free_side free h c k t n i e = record { below = n; fits = λ q. free_stands free k t (suc c) (omega arith) i (e q) }

  -- the last pin is in its set then too
  pub in_more :
      (h : Bool) (c k t : ℕ) → InSet ts k t → (h ≡ true → allowed_to ts (suc k) (suc c) ≡ true) → InSet ts (more h k) (last_in h c t)
  in_more true c k t i e = λ q. e refl
  in_more false c k t i e = i

module _ (s : Sheet) (free_top : NoneBinds s.top) (free_bottom : NoneBinds s.bottom) (d : ℕ) where
  -- so a letter that sets and loads let stand in column c + 1 is one that `reach` does
  pub ends_step : (a : Letter) (k l m c : ℕ) (p : Ends s d k l m) → m ≤ c → Allowed s d a k l (suc c) → Step s d c a k l p.u p.v
  ends_step a k l m c p h r =
      record {
        top = free_side s.top free_top (has_top a) c k p.u (omega (arith, p.top_below)) p.in_top r.top;
        bottom = free_side s.bottom free_bottom (has_bottom a) c l p.v (omega (arith, p.bottom_below)) p.in_bottom r.bottom;
        within = r.within;
        rest = p.reached;
      }

  ends_more :
      (a : Letter) (k l m c : ℕ) → Ends s d k l m → Allowed s d a k l c → m < c → Ends s d (more (has_top a) k) (more (has_bottom a) l) c
  ends_more a k l m zero p r h = absurd (omega arith)
  ends_more a k l m (suc c) p r h =
      record {
        u = last_in (has_top a) c p.u;
        v = last_in (has_bottom a) c p.v;
        top_below = last_below (has_top a) p.u (omega (arith, p.top_below));
        bottom_below = last_below (has_bottom a) p.v (omega (arith, p.bottom_below));
        reached = step-reach s d c a k l p.u p.v (ends_step a k l m c p (omega arith) r);
        in_top = in_more s.top (has_top a) c k p.u p.in_top r.top;
        in_bottom = in_more s.bottom (has_bottom a) c l p.v p.in_bottom r.bottom;
      }
    where
      last_below : (h : Bool) (t : ℕ) → t ≤ c → last_in h c t ≤ suc c
      last_below true t n = omega arith
      last_below false t n = omega arith

  -- the pins can be placed up to the least column, if it is one of the channel's
  pub least_ends : (i j : ℕ) → least_column s d i j ≤ s.columns → Ends s d i j (least_column s d i j)
  least_ends =
      least_induction s d (λ i j x. x ≤ s.columns → Ends s d i j x)
      (λ h. record {
        u = 0;
        v = 0;
        top_below = omega arith;
        bottom_below = omega arith;
        reached = reach-none s d 0 0;
        in_top = λ q. absurd (omega arith);
        in_bottom = λ q. absurd (omega arith);
      })
      (λ i j h. absurd (omega arith)) (λ a k l m c p r h n q. ends_more a k l m c (p (omega arith)) r h)

  -- so all pins can be placed exactly then
  pub feasible_exactly : feasible s d ≡ leb (last_column s d) s.columns
  feasible_exactly =
      same_test _ _ (λ f. le-leb _ _ (feasible_least s d f))
      (λ h. let p = least_ends (length s.top) (length s.bottom) (leb-true _ _ h) in
      feasible-from s d p.u p.v (omega (arith, p.top_below, leb-true _ _ h)) (omega (arith, p.bottom_below, leb-true _ _ h)) p.reached)
