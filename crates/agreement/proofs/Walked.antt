-- Over a filled table, the walk writes the columns of the model's walk.
-- Assumes nothing.
use Rattle.std.proofs.Common.{ℕ, zero, suc, pred, ◌+◌, ◌-◌, ◌≤◌, ◌<◌, ◌≡◌, refl, ◌∙◌, List, ◌∷◌, ◌++◌, Bool, true, false, inl, arith, le_refl, length, drop}
use Rattle.channel.specs.Sheet.{Terminal, Sheet}
use Rattle.channel.specs.Word.{Letter, has_top, has_bottom, columns_of}
use Rattle.channel.specs.Cut.{before}
use Rattle.table.specs.Planes.{Filled}
use Rattle.reach.specs.Reach.{feasible}
use Rattle.reach.specs.Greedy.{choice, walk_word_from, walk_word}
use Rattle.reach.proofs.Rightmost.{last_in}
use Rattle.reach.proofs.Completed.{SideDone, Done, done_rest}
use Rattle.reach.proofs.Whole.{walk-whole}
use Rattle.pass.specs.declared.plan.Plan.{Plan}
use Rattle.letters.specs.Walking.{whole_walk}
use Rattle.walk.specs.Walk.{choice_in}
use Rattle.agreement.specs.Ready.{Ready}
use Rattle.agreement.proofs.Reached.{cell-reach}
use Rattle.agreement.proofs.Letters.{OnSide, Reaches, choice-in}
use Rattle.agreement.proofs.Written.{Spells, behind-letter, spelt_columns}

-- one side of the walk, with one column less
on-side : (h : Bool) (n l c i x : ℕ) → OnSide n l (suc c) i x → (h ≡ true → 0 < i) → OnSide n l c (before h i) (last_in h c x)
on-side true n l c i x r p =
    let some : 0 < i = p refl in
    let few : pred i ≤ n = omega (arith, r.few) in
    let room : c + (n - pred i) ≤ l = omega (arith, r.few, r.room) in
    record { few = few; room = room; last = λ k. omega (arith, r.room) }
on-side false n l c i x r p =
    record { few = r.few; room = omega (arith, r.room); last = λ k. let (a, b) = r.last k in omega arith }

-- one side of a word's first letter: where it has a pin, there is one to place
first-pin :
    (ts : List Terminal) (f : Letter → Bool) (i x : ℕ) (a : Letter) (w : List Letter) → SideDone ts f i x (a ∷ w) → f a ≡ true → 0 < i
first-pin ts f i x a w r e = omega (arith, rw e at r.pins)

module _
    (s : Sheet) (rules loads : List ℕ) (n : Plan) (ready : Ready s rules loads n) (d : ℕ) (work : List ℕ) (cells : Reaches s d n work)
  where
    -- from c columns on its choices spell the model's word
    spells-walk :
        (c i j x y : ℕ) → OnSide n.p n.l c i x → OnSide n.q n.l c j y → Done s d c i j x y (walk_word_from s d c i j x y)
        → Spells (choice_in work rules n.grid n.p n.q) (record { c = c; i = i; j = j; top = x; bottom = y }) (walk_word_from s d c i j x y)
    unfolding walk_word_from
    spells-walk zero i j x y tops bottoms done = tt
    spells-walk (suc c) i j x y tops bottoms done =
        let a : Letter = choice s d c i j x y in
        let t : has_top a ≡ true → 0 < i = first-pin s.top has_top i x a _ done.top in
        let b : has_bottom a ≡ true → 0 < j = first-pin s.bottom has_bottom j y a _ done.bottom in (
          choice-in s rules loads n ready d work cells c i j x y tops bottoms,
          rw (behind-letter c i j x y a t b)
              (spells-walk c _ _ _ _ (on-side (has_top a) n.p n.l c i x tops t) (on-side (has_bottom a) n.q n.l c j y bottoms b)
              (done_rest s d c i j x y a _ done)),
        )

-- the walk starts with all columns and all pins
walk_from :
    (s : Sheet) (d l p q : ℕ) → l ≡ s.columns → p ≡ length s.top → q ≡ length s.bottom → feasible s d ≡ true
    → (walk_word_from s d l p q 0 0 ≡ walk_word s d) × Done s d l p q 0 0 (walk_word s d)
unfolding walk_word
walk_from s d l p q el ep eq f = rw (el, ep, eq) (refl, walk-whole s d f)

-- and so does a side of the walk
on-start : (n l : ℕ) → OnSide n l l n 0
on-start n l = record { few = le_refl n; room = omega arith; last = λ h. absurd (omega arith) }

-- over a filled table the walk writes the columns of the model's word, and leaves what stands behind them
pub walk_columns_lem :
    (s : Sheet) (rules loads : List ℕ) (n : Plan) → Ready s rules loads n → (d : ℕ) → feasible s d ≡ true
    → (work old : List ℕ) (e : ℕ) → Filled rules loads d n.grid (n.p + 1) 0 e old work
    → (columns : List ℕ) → n.p + n.q ≤ length columns
    → whole_walk (choice_in work rules n.grid n.p n.q) n.l n.p n.q columns ≡ columns_of (walk_word s d) ++ drop (n.p + n.q) columns
walk_columns_lem s rules loads n ready d f work old e filled columns room =
    let (same, done) = walk_from s d n.l n.p n.q ready.l ready.p ready.q f in
    spelt_columns (choice_in work rules n.grid n.p n.q) (walk_word s d) n.l n.p n.q columns done.size done.top.pins done.bottom.pins room
    (rw same at (spells-walk s rules loads n ready d work cells n.l n.p n.q 0 0 (on-start n.p n.l) (on-start n.q n.l) (rw same done)))
  where
    cells : Reaches s d n work
    cells i j x y hi hj hx hy =
        filled.cells i j x y (inl (omega arith)) (omega (arith, ready.across)) hx hy
        ∙ cell-reach s rules loads d ready.top ready.bottom ready.cuts i j x y (omega (arith, ready.p))
        (omega (arith, ready.q)) (omega (arith, ready.sizes.rows)) hy
