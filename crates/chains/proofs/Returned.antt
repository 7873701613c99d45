-- What a call for a chain returned: the number and the amount of the list's check, 19 with the lowest net on a circle, or the longest chain
-- and the bound.
-- Assumes nothing.
use Rattle.std.proofs.Common.{Result, Ok, Err, Option, Some, None, ℕ, ◌≡◌, ◌<◌, ◌≤◌, ◌⊎◌, inl, inr, refl, sym, ◌∙◌, ap, subst, List, ◌++◌, Bool, true, arith, pos}
use Rattle.std.proofs.lemmas.Bool.{cases_lt}
use Rattle.std.proofs.Math.Path.{fun_ext}
use Rattle.channel.specs.Sheet.{Sheet, Sound, all_nets}
use Rattle.channel.specs.Assignment.{is_assignment}
use Rattle.channel.specs.Density.{pins, straight_in, crosses, density, column_density, nets_of}
use Rattle.refusals.proofs.Refused.{list_number_some}
use Rattle.soundness.specs.Read.{sheet_of}
use Rattle.soundness.proofs.Laws.{read_checked, read-sound}
use Rattle.sheet.specs.declared.Layout.{Layout}
use Rattle.refusals.specs.declared.ListRefusal.{ListRefusal}
use Rattle.list.specs.Answer.{listed_of}
use Rattle.list.specs.Returned as list
use Rattle.list.proofs.Returned.{one_list}
use Rattle.list.proofs.Laws.{assigns}
use Rattle.constraints.specs.declared.Constraint.{Constraint}
use Rattle.constraints.specs.Constraints.{lies_over}
use Rattle.constraints.specs.Listed.{constraints_of, listed_over}
use Rattle.constraints.proofs.Lies.{lies-listed}
use Rattle.wirings.specs.Wirings.{Wired}
use Rattle.wirings.proofs.Bounds.{density-tracks, chain-tracks}
use Rattle.chained.specs.declared.Chain.{Chain}
use Rattle.chained.specs.declared.ChainRefusal.{ChainRefusal}
use Rattle.chained.specs.declared.ChainRefusal.TheVariants.{Listed, Circle}
use Rattle.chained.specs.Numbers.{number_of, nets_of as chain_of, bound_of, net_of, amount_of}
use Rattle.chains.specs.Chains.{longest_chain, lowest_on_circle, unless_circle, chain_nets}
use Rattle.chains.specs.Answer.{with_bound, chained_as, chained_of}
use Rattle.chains.specs.Returned.{Decides, Returned}
use Rattle.chains.proofs.Chains.{lowest-some, lowest-none, chain-most, chain-reached, chain-none}

-- what holds of an answer
abbrev Decided : Sheet → List ℕ → (ℕ → ℕ → Bool) → Result Chain ChainRefusal → Type 0
Decided s cs over r = Decides s cs over (number_of r) (chain_of r) (bound_of r) (net_of r)

-- the density of a column list is a bound of its wirings
density-bound :
    (s : Sheet) (cs : List ℕ) (over : ℕ → ℕ → Bool) (tracks : ℕ) (track : ℕ → ℕ)
    → Wired s.columns (crosses (straight_in s) (pins (s.top ++ s.bottom) cs)) over tracks track → density s cs ≤ tracks
unfolding density column_density nets_of
density-bound s cs over tracks track w = density-tracks s.columns _ over tracks track w (all_nets s)

-- an answer about these constraints on a column list
module _ (s : Sheet) (cs : List ℕ) (vs : List Constraint) where
  abbrev answer : Option ℕ → Result Chain ChainRefusal
  answer lowest = with_bound (density s cs) (unless_circle lowest (longest_chain vs))

  -- the nets of a chain are on different tracks
  chain-bound :
      lowest_on_circle vs ≡ None → (tracks : ℕ) (track : ℕ → ℕ)
      → Wired s.columns (crosses (straight_in s) (pins (s.top ++ s.bottom) cs)) (listed_over vs) tracks track → longest_chain vs ≤ tracks
  chain-bound e tracks track w = go (cases_lt 0 (longest_chain vs))
    where
      go : (0 < longest_chain vs) ⊎ (longest_chain vs ≤ 0) → longest_chain vs ≤ tracks
      go (inr l) = omega arith
      go (inl l) =
          let (a, xs, b, p, long) = chain-reached vs e l in
          omega (arith, chain-tracks s.columns _ (listed_over vs) tracks track w a xs b p)

  decided : (lowest : Option ℕ) → lowest_on_circle vs ≡ lowest → Decided s cs (listed_over vs) (answer lowest)
  decided (Some net) e =
      let (on, low) = lowest-some vs net e in
      record {
        circle = (λ _. (net, on), λ _. refl);
        lowest = λ _. (on, λ a c. low a c.0 c.1);
        other = λ h. absurd (h refl);
        reached = λ z. absurd (omega arith);
        longest = λ z. absurd (omega arith);
        none = λ z. absurd (omega arith);
        greater = λ z. absurd (omega arith);
        fewest = λ z. absurd (omega arith);
      }
  decided None e = record {
    circle = (λ z. absurd (omega arith), λ c. absurd (lowest-none vs e c.0 c.1.0 c.1.1));
    lowest = λ z. absurd (omega arith);
    other = λ _. refl;
    reached = λ _. chain-reached vs e;
    longest = λ _. chain-most vs e;
    none = λ _. chain-none vs e;
    greater = λ _. refl;
    fewest = λ _ tracks track w. omega (arith, density-bound s cs (listed_over vs) tracks track w, chain-bound e tracks track w);
  }

-- which net lies over which is what the list of constraints says
assigned :
    (s : Sheet) → Sound s → (cs : List ℕ) → is_assignment s cs ≡ true
    → Decided s cs (lies_over s cs) (with_bound (density s cs) (chain_nets (constraints_of s cs)))
assigned s sound cs ok =
    let vs = constraints_of s cs in
    let same : listed_over vs ≡ lies_over s cs = fun_ext (λ (a : ℕ). fun_ext (λ (b : ℕ). lies-listed s sound cs ok a b)) in
    subst (λ (over : ℕ → ℕ → Bool). Decided s cs over (with_bound (density s cs) (chain_nets vs))) same
    (decided s cs vs (lowest_on_circle vs) refl)

-- what an answer carries
named_none : (r : Result Chain ChainRefusal) → (number_of r ≡ 19 → ⊥) → net_of r ≡ 0
named_none (Ok chain) h = refl
named_none (Err (Listed why)) h = refl
named_none (Err (Circle net)) h = absurd (h refl)

refused_none : (r : Result Chain ChainRefusal) → (number_of r ≡ 0 → ⊥) → (chain_of r ≡ 0) × (bound_of r ≡ 0)
refused_none (Ok chain) h = absurd (h refl)
refused_none (Err why) h = (refl, refl)

module _ (s : Sheet) (cs : List ℕ) where
  same_amount : (l : Result Layout ListRefusal) → amount_of (chained_as s cs l) ≡ list.amount_of l
  same_amount (Ok n) = go (lowest_on_circle (constraints_of s cs))
    where
      go : (lowest : Option ℕ) → amount_of (answer s cs (constraints_of s cs) lowest) ≡ pos 0
      go None = refl
      go (Some net) = refl
  same_amount (Err why) = refl

  first-number : (l : Result Layout ListRefusal) → (list.number_of l ≡ 0 → ⊥) → number_of (chained_as s cs l) ≡ list.number_of l
  first-number (Ok n) h = absurd (h refl)
  first-number (Err why) h = refl

module _ (bytes columns : List ℕ) (r : Result Chain ChainRefusal) (is : r ≡ chained_of bytes columns) where
  decides_sheet :
      (l : Result Layout ListRefusal) → listed_of bytes columns ≡ l → list.number_of l ≡ 0
      → Decided (sheet_of bytes) columns (lies_over (sheet_of bytes) columns) r
  unfolding chained_of
  decides_sheet (Ok n) e z =
      let laws = assigns bytes columns n e in
      rw (is, e) (assigned (sheet_of bytes) (read-sound bytes (sheet_of bytes) laws.opens.reads) columns laws.assigned)
  decides_sheet (Err why) e z = absurd (list_number_some why z)

  -- all that document 02 asks of one call
  pub one_chain : Returned bytes columns (number_of r) (chain_of r) (bound_of r) (net_of r) (amount_of r)
  unfolding chained_of
  one_chain = record {
    checked = list.number_of (listed_of bytes columns);
    listed =
        rw (is, same_amount (sheet_of bytes) columns (listed_of bytes columns)) (one_list bytes columns (listed_of bytes columns) refl);
    first = λ h. ap number_of is ∙ first-number (sheet_of bytes) columns (listed_of bytes columns) h;
    decides =
        λ s h z. subst (λ (t : Sheet). Decided t columns (lies_over t columns) r) (sym (read_checked bytes s h).1)
        (decides_sheet (listed_of bytes columns) refl z);
    named = named_none r;
    refused = refused_none r;
  }
