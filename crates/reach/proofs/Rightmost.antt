-- One column more: how the places of the last pins change where one more letter stands to the right, and the induction that gives.
-- Assumes nothing.
use Rattle.std.proofs.Common.{◌≡◌, ℕ, zero, suc, ◌<◌, ◌≤◌, Bool, true, false, cond, ◌&&◌, leb, List, sym, refl, ◌∙◌, arith, ne_eqb, le-leb, leb-false, leb-true}
use Rattle.std.proofs.Math.Bool.{and-false, and-eq-true_iff}
use Rattle.std.proofs.lemmas.Bool.{and_from, false≢true}
use Rattle.channel.specs.Below.{any_below}
use Rattle.channel.proofs.Below.{any_below-from, any_below_to}
use Rattle.channel.specs.Sheet.{Terminal, Sheet}
use Rattle.channel.specs.Word.{Letter, has_top, has_bottom}
use Rattle.channel.specs.Word.Letter.{empty, top, bottom, both}
use Rattle.channel.specs.Cut.{load, occupied}
use Rattle.reach.specs.Reach.{stands, reach}
use Rattle.reach.proofs.Reaches.{reach-none, reach-top, reach-bottom, reach-both}
use Rattle.reach.proofs.Reaches.{reach_no_top, reach_no_bottom, reach_only_tops, reach_only_bottoms}

-- how many pins a side has, where it has k and, if h, one more
abbrev pub more : Bool → ℕ → ℕ
more h k = cond h (suc k) k

-- where the last of them stands: in column c + 1 if there is one more, and else in t
abbrev pub last_in : Bool → ℕ → ℕ → ℕ
last_in h c t = cond h (suc c) t

-- one side: its k pins stand in the columns up to c, the last in t, and one more, if h, may stand in column c + 1
pub record OneSide (ts : List Terminal) (h : Bool) (c k t : ℕ) : Type 0 where
  pub below : t ≤ c
  pub fits : h ≡ true → stands ts (suc k) t (suc c) ≡ true

-- the columns up to c hold k top and l bottom pins, the last in t and b, and column c + 1 may hold the letter a
pub record Step (s : Sheet) (d c : ℕ) (a : Letter) (k l t b : ℕ) : Type 0 where
  pub top : OneSide s.top (has_top a) c k t
  pub bottom : OneSide s.bottom (has_bottom a) c l b
  pub within : occupied a ≡ true → load s a (more (has_top a) k) (more (has_bottom a) l) ≤ d
  pub rest : reach s d k l t b ≡ true

module _ (s : Sheet) (d : ℕ) where
  -- with that letter in column c + 1
  pub step-reach :
      (c : ℕ) (a : Letter) (k l t b : ℕ) → Step s d c a k l t b
      → reach s d (more (has_top a) k) (more (has_bottom a) l) (last_in (has_top a) c t) (last_in (has_bottom a) c b) ≡ true
  step-reach c empty k l t b r = r.rest
  step-reach c top k l t b r =
      rw (reach-top s d k l (suc c) b (omega arith))
      (and_from _ _ (le-leb _ d (r.within refl))
      (any_below-from (suc c) (λ (t : ℕ). stands s.top (suc k) t (suc c) && reach s d k l t b) t (omega arith)
      (and_from _ _ (r.top.fits refl) r.rest)))
  step-reach c bottom k l t b r =
      rw (reach-bottom s d k l t (suc c) (omega arith))
      (and_from _ _ (le-leb _ d (r.within refl))
      (any_below-from (suc c) (λ (b : ℕ). stands s.bottom (suc l) b (suc c) && reach s d k l t b) b (omega arith)
      (and_from _ _ (r.bottom.fits refl) r.rest)))
  step-reach c both k l t b r =
      let pair : ℕ → ℕ → Bool = λ t b. stands s.top (suc k) t (suc c) && (stands s.bottom (suc l) b (suc c) && reach s d k l t b) in
      rw (reach-both s d k l (suc c))
      (and_from _ _ (le-leb _ d (r.within refl))
      (any_below-from (suc c) (λ (t : ℕ). any_below (suc c) (pair t)) t (omega arith)
      (any_below-from (suc c) (pair t) b (omega arith)
      (and_from _ _ (r.top.fits refl) (and_from _ _ (r.bottom.fits refl) r.rest)))))

-- a side's last pin stands in column c + 1 if h, and else in one of the columns up to c
abbrev pub At : Bool → ℕ → ℕ → Type 0
At true c u = u ≡ suc c
At false c u = u ≤ c

-- i and j pins, the last in u and v, with the letter a in column c + 1: what is left when that letter is taken away
pub record Back (s : Sheet) (d c : ℕ) (a : Letter) (i j u v : ℕ) : Type 0 where
  pub k : ℕ
  pub l : ℕ
  pub t : ℕ
  pub b : ℕ
  pub tops : i ≡ more (has_top a) k
  pub bottoms : j ≡ more (has_bottom a) l
  pub last_top : u ≡ last_in (has_top a) c t
  pub last_bottom : v ≡ last_in (has_bottom a) c b
  pub step : Step s d c a k l t b

-- what a test over one open column says
some_below :
    (m d n : ℕ) (f g : ℕ → Bool) → (leb m d && any_below n (λ (t : ℕ). f t && g t)) ≡ true
    → (m ≤ d) × ((t : ℕ) × (t < n) × (f t ≡ true) × (g t ≡ true))
some_below m d n f g e =
    let (x, y) = (and-eq-true_iff (leb m d) (any_below n (λ (t : ℕ). f t && g t))).0 e in
    let (t, h, z) = any_below_to n (λ (t : ℕ). f t && g t) y in
    let (p, q) = (and-eq-true_iff (f t) (g t)).0 z in
    (leb-true m d x, (t, h, p, q))

-- and one with two
some_two_below :
    (m d n : ℕ) (f g : ℕ → Bool) (h : ℕ → ℕ → Bool)
    → (leb m d && any_below n (λ (t : ℕ). any_below n (λ (b : ℕ). f t && (g b && h t b)))) ≡ true
    → (m ≤ d) × ((t : ℕ) × (b : ℕ) × (t < n) × (b < n) × (f t ≡ true) × (g b ≡ true) × (h t b ≡ true))
some_two_below m d n f g h e =
    let (x, y) = (and-eq-true_iff (leb m d) (any_below n (λ (t : ℕ). any_below n (λ (b : ℕ). f t && (g b && h t b))))).0 e in
    let (t, k, z) = any_below_to n (λ (t : ℕ). any_below n (λ (b : ℕ). f t && (g b && h t b))) y in
    let (b, l, w) = any_below_to n (λ (b : ℕ). f t && (g b && h t b)) z in
    let (p, q) = (and-eq-true_iff (f t) (g b && h t b)).0 w in
    let (o, r) = (and-eq-true_iff (g b) (h t b)).0 q in
    (leb-true m d x, (t, b, k, l, p, o, r))

-- a side with no pin in column c + 1
unmoved : (ts : List Terminal) (c k t : ℕ) → t ≤ c → OneSide ts false c k t
unmoved ts c k t h = record { below = h; fits = λ q. absurd (false≢true q) }

-- a letter can be taken away from the column furthest right
module _ (s : Sheet) (d c : ℕ) where
  back :
      (a : Letter) (k l t b : ℕ) → Step s d c a k l t b
      → Back s d c a (more (has_top a) k) (more (has_bottom a) l) (last_in (has_top a) c t) (last_in (has_bottom a) c b)
  back a k l t b r =
      record { k = k; l = l; t = t; b = b; tops = refl; bottoms = refl; last_top = refl; last_bottom = refl; step = r }

  -- a top pin alone
  back-top : (i j v : ℕ) → v ≤ c → reach s d i j (suc c) v ≡ true → Back s d c top i j (suc c) v
  back-top zero j v h r = absurd (false≢true (sym (reach_no_top s d j (suc c) v (omega arith)) ∙ r))
  back-top (suc k) j v h r =
      let (m, (t, n, x, y)) =
      some_below (load s top (suc k) j) d (suc c) (λ (t : ℕ). stands s.top (suc k) t (suc c)) (λ (t : ℕ). reach s d k j t v)
      (rw (reach-top s d k j (suc c) v (omega arith)) at r) in
      back top k j t v
      (record { top = record { below = omega arith; fits = λ q. x }; bottom = unmoved s.bottom c j v h; within = λ q. m; rest = y })

  -- a bottom pin alone
  back-bottom : (i j u : ℕ) → u ≤ c → reach s d i j u (suc c) ≡ true → Back s d c bottom i j u (suc c)
  back-bottom i zero u h r = absurd (false≢true (sym (reach_no_bottom s d i u (suc c) (omega arith)) ∙ r))
  back-bottom i (suc l) u h r =
      let (m, (b, n, x, y)) =
      some_below (load s bottom i (suc l)) d (suc c) (λ (b : ℕ). stands s.bottom (suc l) b (suc c)) (λ (b : ℕ). reach s d i l u b)
      (rw (reach-bottom s d i l u (suc c) (omega arith)) at r) in
      back bottom i l u b
      (record { top = unmoved s.top c i u h; bottom = record { below = omega arith; fits = λ q. x }; within = λ q. m; rest = y })

  -- both
  back-both : (i j : ℕ) → reach s d i j (suc c) (suc c) ≡ true → Back s d c both i j (suc c) (suc c)
  back-both zero zero r = absurd (false≢true (sym (rw (reach-none s d (suc c) (suc c), ne_eqb (suc c) 0 (λ e. omega arith))) ∙ r))
  back-both zero (suc l) r = absurd (false≢true (sym (reach_only_bottoms s d l (suc c)) ∙ r))
  back-both (suc k) zero r = absurd (false≢true (sym (reach_only_tops s d k (suc c)) ∙ r))
  back-both (suc k) (suc l) r =
      let (m, (t, b, n, o, x, y, z)) =
      some_two_below (load s both (suc k) (suc l)) d (suc c) (λ (t : ℕ). stands s.top (suc k) t (suc c))
      (λ (b : ℕ). stands s.bottom (suc l) b (suc c)) (reach s d k l)
      (rw (reach-both s d k l (suc c)) at r) in
      back both k l t b
      (record {
        top = record { below = omega arith; fits = λ q. x };
        bottom = record { below = omega arith; fits = λ q. y };
        within = λ q. m;
        rest = z;
      })

  -- any letter, where the last pins stand as it says
  pub step_back :
      (a : Letter) (i j u v : ℕ) → At (has_top a) c u → At (has_bottom a) c v → reach s d i j u v ≡ true → Back s d c a i j u v
  step_back empty i j u v hu hv r =
      back empty i j u v
      (record {
        top = unmoved s.top c i u hu;
        bottom = unmoved s.bottom c j v hv;
        within = λ q. absurd (false≢true q);
        rest = r;
      })
  step_back top i j u v hu hv r = rw hu (back-top i j v hv (rw hu at r))
  step_back bottom i j u v hu hv r = rw hv (back-bottom i j u hu (rw hv at r))
  step_back both i j u v hu hv r = rw (hu, hv) (back-both i j (rw (hu, hv) at r))

-- a column up to c + 1 is that column, or one up to c
pub at_column : (c u : ℕ) → u ≤ suc c → (h : Bool) × At h c u
at_column c u k = decide (leb u c) refl
  where
    decide : (t : Bool) → leb u c ≡ t → (h : Bool) × At h c u
    decide true q = (false, leb-true u c q)
    decide false q = (true, omega (arith, leb-false u c q))

-- the letter with those pins
pub letter_with : (h g : Bool) → (a : Letter) × (has_top a ≡ h) × (has_bottom a ≡ g)
letter_with false false = (empty, refl, refl)
letter_with true false = (top, refl, refl)
letter_with false true = (bottom, refl, refl)
letter_with true true = (both, refl, refl)

module _ (s : Sheet) (d : ℕ) where
  -- without columns there are no pins
  reach-start : (i j : ℕ) → reach s d i j 0 0 ≡ true → (i ≡ 0) × (j ≡ 0)
  reach-start zero zero r = (refl, refl)
  reach-start zero (suc j) r = absurd (false≢true (sym (reach_only_bottoms s d j 0) ∙ r))
  reach-start (suc i) zero r = absurd (false≢true (sym (reach_only_tops s d i 0) ∙ r))
  reach-start (suc i) (suc j) r =
      absurd (false≢true (sym (and-false (leb (load s both (suc i) (suc j)) d)) ∙ (rw (reach-both s d i j 0) at r)))

  -- P is kept by one letter more to the right
  abbrev pub Keeps : (ℕ → ℕ → ℕ → ℕ → Type 0) → Type 0
  Keeps P =
      (c : ℕ) (a : Letter) (k l t b : ℕ) → Step s d c a k l t b → P k l t b
      → P (more (has_top a) k) (more (has_bottom a) l) (last_in (has_top a) c t) (last_in (has_bottom a) c b)

  -- so P holds with a letter if it holds of what is left without it
  from_back :
      (P : ℕ → ℕ → ℕ → ℕ → Type 0) → Keeps P → (c : ℕ) (a : Letter) (i j u v : ℕ) → Back s d c a i j u v
      → ((k l t b : ℕ) → Step s d c a k l t b → P k l t b) → P i j u v
  from_back P keeps c a i j u v r rest =
      rw (r.tops, r.bottoms, r.last_top, r.last_bottom)
      (keeps c a r.k r.l r.t r.b r.step (rest r.k r.l r.t r.b r.step))

  -- induction over the columns: what holds with no pins, and is kept by one letter more, holds wherever the pins can be placed
  pub reach_induction :
      (P : ℕ → ℕ → ℕ → ℕ → Type 0) → P 0 0 0 0 → Keeps P
      → (n i j u v : ℕ) → u ≤ n → v ≤ n → reach s d i j u v ≡ true → P i j u v
  reach_induction P start keeps zero i j u v hu hv r =
      let x : u ≡ 0 = omega arith in
      let y : v ≡ 0 = omega arith in
      let (p, q) = reach-start i j (rw (x, y) at r) in
      rw (x, y, p, q) start
  reach_induction P start keeps (suc c) i j u v hu hv r =
      let (h, x) = at_column c u hu in
      let (g, y) = at_column c v hv in
      let (a, p, q) = letter_with h g in
      from_back P keeps c a i j u v (step_back s d c a i j u v (rw p x) (rw q y) r)
      (λ k l t b o. reach_induction P start keeps c k l t b o.top.below o.bottom.below o.rest)
