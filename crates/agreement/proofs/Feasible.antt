-- All pins can be placed, as the table says it, exactly when they can in the model.
-- Assumes nothing.
use Rattle.std.proofs.Common.{ℕ, zero, suc, ◌+◌, ◌-◌, ◌≤◌, ◌<◌, ◌≡◌, refl, sym, ◌∙◌, ap, List, Bool, true, false, cond, ◌&&◌, arith, length, ltb, eqb, ltb-true, lt-ltb, eqb-true}
use Rattle.std.proofs.Math.Bool.{and-true, and-eq-true_iff}
use Rattle.std.proofs.lemmas.Bool.{eqb-false}
use Rattle.std.specs.Cmp.{both_ways}
use Rattle.channel.specs.Below.{any_below}
use Rattle.channel.proofs.Below.{any_below-from, any_below_to}
use Rattle.channel.specs.Sheet.{Sheet}
use Rattle.bits.specs.Bits.{in_word}
use Rattle.entry.specs.Entry.{cell}
use Rattle.reach.specs.Reach.{reach, feasible}
use Rattle.reach.proofs.Bounds.{Held, reach-held}
use Rattle.pass.specs.declared.plan.Plan.{Plan}
use Rattle.pass.specs.Pass.{feasible_in}
use Rattle.agreement.specs.Ready.{Ready}
use Rattle.agreement.proofs.Reached.{cell-reach}

-- A test f of the numbers below n and a test g of the columns up to c, where the number x is the column x + k: some number meets f
-- exactly when some column meets g, if f and g agree, f holds of no column past c, and g only of columns that have a number
pub same_columns :
    (n k c : ℕ) (f g : ℕ → Bool) → ((x : ℕ) → x < n → x + k ≤ c → f x ≡ g (x + k))
    → ((x : ℕ) → x < n → f x ≡ true → x + k ≤ c) → ((u : ℕ) → u ≤ c → g u ≡ true → (k ≤ u) × (u - k < n))
    → any_below n f ≡ any_below (suc c) g
same_columns n k c f g agree left room =
    both_ways (any_below n f) (any_below (suc c) g)
    (λ e.
    let (x, h, m) = any_below_to n f e in
    let l : x + k ≤ c = left x h m in
    any_below-from (suc c) g (x + k) (omega arith) (sym (agree x h l) ∙ m))
    (λ e.
    let (u, h, m) = any_below_to (suc c) g e in
    let (l, r) = room u (omega arith) m in
    let here : u - k + k ≡ u = omega arith in
    any_below-from n f (u - k) r (agree (u - k) r (omega arith) ∙ ap g here ∙ m))

module _ (s : Sheet) (rules loads : List ℕ) (n : Plan) (ready : Ready s rules loads n) where
  -- there is a row for a column in which the last of i top pins stands, where the top pins behind it have columns too
  pub row_there : (i u : ℕ) → i ≤ n.p → Held i u → u + (n.p - i) ≤ n.l → u - i < n.grid.rows
  row_there i u h k l = by-test (eqb n.p 0) refl ready.rows
    where
      by-test : (t : Bool) → eqb n.p 0 ≡ t → n.grid.rows ≡ cond t 1 (n.l - n.p + 1) → u - i < n.grid.rows
      by-test true e r = omega (arith, eqb-true n.p 0 e, k.none (omega (arith, eqb-true n.p 0 e)))
      by-test false e r = omega (arith, k.room, eqb-false n.p 0 e)

  -- there is a row
  pub some_row : 0 < n.grid.rows
  some_row =
      let first : 0 - 0 < n.grid.rows =
      row_there 0 0 (omega arith) (record { room = omega arith; none = λ e. e }) (omega (arith, ready.tops)) in
      omega arith

  -- a word has the number of a column in which the last of j bottom pins stands
  pub number_there : (j v : ℕ) → v ≤ n.l → Held j v → v - j < 64
  number_there zero v h k = omega (arith, k.none refl)
  number_there (suc j) v h k = omega (arith, ready.sound.columns, ready.l)

  module _ (d : ℕ) where
    -- the last bottom pin, where the last top pin stands in row x
    numbers-same :
        (x : ℕ) → x < n.grid.rows
        → in_word (λ (y : ℕ). cell rules loads d n.p n.q x y && ltb y (n.l + 1 - n.q))
        ≡ any_below (suc n.l) (reach s d n.p n.q (x + n.p))
    unfolding in_word
    numbers-same x h =
        same_columns 64 n.q n.l _ (reach s d n.p n.q (x + n.p))
        (λ y k l.
        ap (λ (t : Bool). cell rules loads d n.p n.q x y && t) (lt-ltb y (n.l + 1 - n.q) (omega arith))
        ∙ and-true (cell rules loads d n.p n.q x y)
        ∙ cell-reach s rules loads d ready.top ready.bottom ready.cuts n.p n.q x y (omega (arith, ready.p))
        (omega (arith, ready.q)) (omega (arith, ready.sizes.rows)) k)
        (λ y k e. omega (arith, ltb-true y (n.l + 1 - n.q) ((and-eq-true_iff (cell rules loads d n.p n.q x y) _).0 e).1))
        (λ v k e.
        let stands : Held n.q v = (reach-held s d n.p n.q (x + n.p) v e).1 in
        (stands.room, number_there n.q v k stands))

    -- all pins can be placed as the table says it exactly when they can in the model
    pub feasible-in : feasible_in rules loads n d ≡ feasible s d
    unfolding feasible_in feasible
    feasible-in =
        same_columns n.grid.rows n.p n.l _ (λ (u : ℕ). any_below (suc n.l) (reach s d n.p n.q u))
        (λ x k l. numbers-same x k) (λ x k e. left x k (eqb n.p 0) refl ready.rows)
        (λ u k e. there u k (any_below_to (suc n.l) _ e))
        ∙ whole n.p n.q n.l ready.p ready.q ready.l
      where
        -- the plan's numbers are the sheet's
        whole :
            (p q l : ℕ) → p ≡ length s.top → q ≡ length s.bottom → l ≡ s.columns
            → any_below (suc l) (λ (u : ℕ). any_below (suc l) (reach s d p q u)) ≡ feasible s d
        whole p q l a b c = rw (a, b, c)

        -- a row is a column of the channel
        left :
            (x : ℕ) → x < n.grid.rows → (t : Bool) → eqb n.p 0 ≡ t → n.grid.rows ≡ cond t 1 (n.l - n.p + 1)
            → x + n.p ≤ n.l
        left x k true e r = omega (arith, eqb-true n.p 0 e)
        left x k false e r = omega (arith, ready.tops)

        -- and the last top pin's column has a row
        there :
            (u : ℕ) → u ≤ n.l → (v : ℕ) × (v < suc n.l) × (reach s d n.p n.q u v ≡ true)
            → (n.p ≤ u) × (u - n.p < n.grid.rows)
        there u k (v, h, e) =
            let stands : Held n.p u = (reach-held s d n.p n.q u v e).0 in
            (stands.room, row_there n.p u (omega arith) stands (omega arith))
