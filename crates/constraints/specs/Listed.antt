-- The vertical constraints of an assignment as a list: of each top pin, what lies under it.
-- Assumes nothing.
use Rattle.std.specs.Prelude.{ℕ, List, [], ◌∷◌, Bool, not, cond, ◌&&◌, eqb}
use Rattle.channel.specs.Sheet.{Sheet, all_nets}
use Rattle.channel.specs.Assignment.{top_columns, bottom_columns}
use Rattle.channel.specs.Density.{any, Pin, pins}
use Rattle.constraints.specs.declared.Constraint.{Constraint}
use Rattle.constraints.specs.Constraints.{differ}

-- the net of the last of a side's pins in column c, and `before` where there is none
abbrev pub net_from : ℕ → ℕ → List Pin → ℕ
net_from before c [] = before
net_from before c (p ∷ ps) = net_from (cond (eqb p.column c) p.net before) c ps

-- the net of a side in column c, 0 where there is no pin: 'Zero marks "no pin" in this trade's pin rows'
abbrev pub net_at : List Pin → ℕ → ℕ
net_at ps c = net_from 0 c ps

-- net a on top and net b below constrain each other; b is 0 where nothing is below
abbrev pub constrains : List ℕ → ℕ → ℕ → Bool
constrains ns a b = not (eqb b 0) && differ ns a b

abbrev pub constraints_in : List ℕ → List Pin → (ℕ → ℕ) → List Constraint
constraints_in ns [] below = []
constraints_in ns (p ∷ ps) below =
    cond (constrains ns p.net (below p.column)) (record { over = p.net; under = below p.column } ∷ constraints_in ns ps below)
    (constraints_in ns ps below)

unfoldable pub constraints_of : Sheet → List ℕ → List Constraint
constraints_of s cs =
    constraints_in (all_nets s) (pins s.top (top_columns s cs)) (net_at (pins s.bottom (bottom_columns s cs)))

-- one of them has net a over net b
abbrev pub listed_over : List Constraint → ℕ → ℕ → Bool
listed_over vs a b = any (λ (v : Constraint). eqb v.over a && eqb v.under b) vs
