-- The number of nets or the net on a circle, from a table that has of each constraint those that it follows.
-- Assumes nothing.
use Rattle.std.proofs.Common.{◌≡◌, ℕ, zero, suc, ◌+◌, ◌≤◌, ◌<◌, Bool, false, ne_eqb, List, length, Option, None, Ok, refl, sym, ◌∙◌, ap₂, arith}
use Rattle.std.proofs.lemmas.Bool.{false_from_ne_true}
use Rattle.relation.specs.Relation.{reaches, longest, leads_in}
use Rattle.relation.proofs.Longest.{longest-circle}
use Rattle.relation.proofs.Same.{reaches_same, longest_same}
use Rattle.constraints.specs.declared.Constraint.{Constraint}
use Rattle.chains.specs.Chains.{constraint_at, follows, longest_chain, circles, least, lowest_on_circle, unless_circle, chain_nets}

least-none : (f : ℕ → Bool) (g : ℕ → ℕ) (n : ℕ) → ((i : ℕ) → i < n → f i ≡ false) → least f g n ≡ None
least-none f g zero h = refl
least-none f g (suc n) h = rw (h n (omega arith)) (least-none f g n (λ i l. h i (omega arith)))

least_cong : (f e : ℕ → Bool) (g : ℕ → ℕ) (n : ℕ) → ((i : ℕ) → i < n → f i ≡ e i) → least f g n ≡ least e g n
least_cong f e g zero h = refl
least_cong f e g (suc n) h = rw (h n (omega arith), least_cong f e g n (λ i l. h i (omega arith)))

pub none-listed : (vs : List Constraint) → length vs ≡ 0 → Ok 0 ≡ chain_nets vs
unfolding longest_chain lowest_on_circle
none-listed vs e = rw e

module _ (vs : List Constraint) (some : length vs ≡ 0 → ⊥) (words : List ℕ)
    (is : (i j : ℕ) → i < length vs → j < length vs → leads_in words i j ≡ follows vs i j) (steps : ℕ)
    (most : steps ≡ longest (leads_in words) (length vs) (length vs)) where
  same : steps ≡ longest (follows vs) (length vs) (length vs)
  same = most ∙ longest_same (leads_in words) (follows vs) (length vs) is (length vs)

  nets : longest_chain vs ≡ steps + 2
  unfolding longest_chain
  nets = rw (ne_eqb (length vs) 0 some, same)

  -- no constraint is on a circle
  pub nets-found : steps < length vs → Ok (steps + 2) ≡ chain_nets vs
  unfolding lowest_on_circle
  nets-found l =
      rw (least-none (circles vs) (λ (i : ℕ). (constraint_at vs i).over) (length vs) free, nets)
    where
      free : (i : ℕ) → i < length vs → circles vs i ≡ false
      free i h =
          false_from_ne_true (circles vs i)
          (λ e. absurd (omega (arith, l, same, (longest-circle (follows vs) (length vs) (omega arith)).1 (i, h, e))))

  -- the closed table has the constraints on a circle in their own words
  pub lowest-found :
      length vs ≤ 64 → (closed : List ℕ) → ((i j : ℕ) → j < 64 → leads_in closed i j ≡ reaches (leads_in words) (length vs) i j)
      → (lowest : Option ℕ) → lowest ≡ least (λ (i : ℕ). leads_in closed i i) (λ (i : ℕ). (constraint_at vs i).over) (length vs)
      → unless_circle lowest (steps + 2) ≡ chain_nets vs
  unfolding lowest_on_circle
  lowest-found few closed reached lowest e =
      ap₂ unless_circle
      (e
      ∙ least_cong (λ (i : ℕ). leads_in closed i i) (circles vs) (λ (i : ℕ). (constraint_at vs i).over) (length vs)
      (λ i h. reached i i (omega arith) ∙ reaches_same (leads_in words) (follows vs) (length vs) is (length vs) i i (omega arith) h h))
      (sym nets)
