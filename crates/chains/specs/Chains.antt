-- The longest chain of a list of vertical constraints, and the lowest net on a circle of them (document 02, T-06). The constraints
-- themselves are what is gone through: one follows another that ends with the net with which it begins.
-- Assumes nothing.
use Rattle.std.specs.Prelude.{ℕ, zero, suc, ◌+◌, min, List, Bool, cond, eqb, length, get_or, Option, Some, None, Result, Ok, Err}
use Rattle.relation.specs.Relation.{reaches, longest}
use Rattle.constraints.specs.declared.Constraint.{Constraint}
use Rattle.chained.specs.declared.ChainRefusal.{ChainRefusal}
use Rattle.chained.specs.declared.ChainRefusal.TheVariants.{Circle}

-- the constraint at a place, from 0
abbrev pub constraint_at : List Constraint → ℕ → Constraint
constraint_at vs i = get_or vs i (record { over = 0; under = 0 })

-- the constraint at place j follows the one at place i: a chain goes on from one to the other
abbrev pub follows : List Constraint → ℕ → ℕ → Bool
follows vs i j = eqb (constraint_at vs i).under (constraint_at vs j).over

-- "the number of nets in the longest chain of two or more, 0 if there is none": one constraint has two nets, and each that follows adds one
unfoldable pub longest_chain : List Constraint → ℕ
longest_chain vs = cond (eqb (length vs) 0) 0 (longest (follows vs) (length vs) (length vs) + 2)

-- a constraint that follows itself, in one step or more, is on a circle
abbrev pub circles : List Constraint → ℕ → Bool
circles vs i = reaches (follows vs) (length vs) i i

-- the less of a number and one that may be missing
abbrev pub lesser : ℕ → Option ℕ → ℕ
lesser a None = a
lesser a (Some b) = min a b

-- the least g i of those i below n of which f holds
abbrev pub least : (ℕ → Bool) → (ℕ → ℕ) → ℕ → Option ℕ
least f g zero = None
least f g (suc n) = cond (f n) (Some (lesser (g n) (least f g n))) (least f g n)

-- "the lowest net number on one": each net on a circle lies over the next in some constraint
unfoldable pub lowest_on_circle : List Constraint → Option ℕ
lowest_on_circle vs = least (circles vs) (λ (i : ℕ). (constraint_at vs i).over) (length vs)

-- "19 .. exactly when a circle exists"
abbrev pub unless_circle : Option ℕ → ℕ → Result ℕ ChainRefusal
unless_circle None nets = Ok nets
unless_circle (Some net) nets = Err (Circle net)

abbrev pub chain_nets : List Constraint → Result ℕ ChainRefusal
chain_nets vs = unless_circle (lowest_on_circle vs) (longest_chain vs)
