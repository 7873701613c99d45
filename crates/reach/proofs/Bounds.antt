-- Where the last pins can stand: never left of their number.
-- Assumes nothing.
use Rattle.std.proofs.Common.{◌≡◌, ℕ, suc, ◌+◌, ◌≤◌, Bool, true, false, length, arith}
use Rattle.channel.specs.Below.{any_below}
use Rattle.channel.proofs.Below.{any_below-from, any_below_to}
use Rattle.channel.specs.Sheet.{Sheet}
use Rattle.channel.specs.Word.{has_top, has_bottom}
use Rattle.reach.specs.Reach.{reach, feasible}
use Rattle.reach.proofs.Rightmost.{more, last_in, reach_induction}

-- i pins of a side, the last in u: each has a column of its own, and without pins u is 0
pub record Held (i u : ℕ) : Type 0 where
  pub room : i ≤ u
  pub none : i ≡ 0 → u ≡ 0

-- that is kept where column c + 1 holds one more, or none
held_more : (h : Bool) (c k t : ℕ) → t ≤ c → Held k t → Held (more h k) (last_in h c t)
held_more true c k t l r = record { room = omega arith; none = λ e. absurd (omega arith) }
held_more false c k t l r = r

-- both sides' pins have that room
pub reach-held : (s : Sheet) (d i j u v : ℕ) → reach s d i j u v ≡ true → Held i u × Held j v
reach-held s d i j u v r =
    reach_induction s d (λ i j u v. Held i u × Held j v) (start, start)
    (λ c a k l t b o p. (held_more (has_top a) c k t o.top.below p.0, held_more (has_bottom a) c l b o.bottom.below p.1))
    (u + v) i j u v (omega arith) (omega arith) r
  where
    start : Held 0 0
    start = record { room = omega arith; none = λ e. e }

module _ (s : Sheet) (d : ℕ) where
  -- all pins placed, the last of them in u and v
  pub feasible-from :
      (u v : ℕ) → u ≤ s.columns → v ≤ s.columns → reach s d (length s.top) (length s.bottom) u v ≡ true
      → feasible s d ≡ true
  unfolding feasible
  feasible-from u v hu hv r =
      let placed : ℕ → ℕ → Bool = λ u v. reach s d (length s.top) (length s.bottom) u v in
      any_below-from (suc s.columns) (λ u. any_below (suc s.columns) (placed u)) u (omega arith)
      (any_below-from (suc s.columns) (placed u) v (omega arith) r)

  -- and back
  pub feasible_some :
      feasible s d ≡ true
      → (u : ℕ) × (v : ℕ) × (u ≤ s.columns) × (v ≤ s.columns) × (reach s d (length s.top) (length s.bottom) u v ≡ true)
  unfolding feasible
  feasible_some e =
      let placed : ℕ → ℕ → Bool = λ u v. reach s d (length s.top) (length s.bottom) u v in
      let (u, hu, f) = any_below_to (suc s.columns) (λ u. any_below (suc s.columns) (placed u)) e in
      let (v, hv, r) = any_below_to (suc s.columns) (placed u) f in
      (u, v, omega arith, omega arith, r)
