-- Worked examples of chains and circles, computed from the definitions.
-- Assumes nothing.
use Rattle.std.proofs.Common.{◌≡◌, ℕ, List, [], ◌∷◌, Some, Result, Ok, refl}
use Rattle.kind.specs.Kinds.{kind_of}
use Rattle.mark.specs.declared.Mark.{Mark}
use Rattle.mark.specs.declared.Mark.TheVariants.{Cp, Cq}
use Rattle.channel.specs.Sheet.{Terminal, Sheet, sheet_with}
use Rattle.channel.specs.Assignment.{top_columns, bottom_columns}
use Rattle.channel.specs.Density.{crosses, nets_of, column_density, density}
use Rattle.relation.specs.Relation.{reaches, starts, longest}
use Rattle.constraints.specs.Listed.{constraints_of}
use Rattle.chained.specs.declared.Chain.{Chain}
use Rattle.chained.specs.declared.ChainRefusal.{ChainRefusal}
use Rattle.chains.specs.Chains.{longest_chain, lowest_on_circle, chain_nets}
use Rattle.chains.specs.Answer.{with_bound}

abbrev pin : ℕ → Terminal
pin n = record { net = n; least = 1; greatest = 255; allowed = 255 }

-- "Pins 1, 2 over 2, 1 make a circle"
abbrev crossed : Sheet
crossed = sheet_with Cp 2 (pin 1 ∷ pin 2 ∷ []) (pin 2 ∷ pin 1 ∷ [])

pub crossed-circle : lowest_on_circle (constraints_of crossed (1 ∷ 2 ∷ 1 ∷ 2 ∷ [])) ≡ Some 1
unfolding kind_of top_columns bottom_columns constraints_of reaches lowest_on_circle
crossed-circle = refl

-- Net 3 leads into the circle, net 4 is what it leads to: neither is on it. Net 5, plain with one pin, lies under nothing
abbrev led : Sheet
led = sheet_with Cp 6 (pin 3 ∷ pin 9 ∷ pin 8 ∷ pin 8 ∷ pin 4 ∷ []) (pin 9 ∷ pin 8 ∷ pin 9 ∷ pin 4 ∷ pin 5 ∷ pin 3 ∷ [])

pub led-circle : lowest_on_circle (constraints_of led (1 ∷ 2 ∷ 3 ∷ 4 ∷ 5 ∷ 1 ∷ 2 ∷ 3 ∷ 4 ∷ 5 ∷ 6 ∷ [])) ≡ Some 8
unfolding kind_of top_columns bottom_columns constraints_of reaches lowest_on_circle
led-circle = refl

-- Document 000's figure 1: nets that leave at the left over net 4, and net 4 over nets that leave at the right, each with one pin
abbrev figure : Sheet
figure =
    sheet_with Cp 6 (pin 60005 ∷ pin 60006 ∷ pin 60007 ∷ pin 4 ∷ pin 4 ∷ pin 4 ∷ [])
    (pin 4 ∷ pin 4 ∷ pin 4 ∷ pin 62001 ∷ pin 62002 ∷ pin 62003 ∷ [])

pub figure-chain :
    longest_chain (constraints_of figure (1 ∷ 2 ∷ 3 ∷ 4 ∷ 5 ∷ 6 ∷ 1 ∷ 2 ∷ 3 ∷ 4 ∷ 5 ∷ 6 ∷ [])) ≡ 3
unfolding kind_of top_columns bottom_columns constraints_of starts longest longest_chain
figure-chain = refl

-- Nets 1 and 2 run from column 1 to column 3, past the straight wire of net 9. Under either mark the chain is net 1 over net 2; where net 9
-- counts, three nets cross column 2, and so the bound is above the chain
abbrev passed : Mark → Sheet
passed m = sheet_with m 3 (pin 1 ∷ pin 9 ∷ pin 1 ∷ []) (pin 2 ∷ pin 9 ∷ pin 2 ∷ [])

abbrev columns : List ℕ
columns = 1 ∷ 2 ∷ 3 ∷ 1 ∷ 2 ∷ 3 ∷ []

abbrev answer : Mark → Result Chain ChainRefusal
answer m = with_bound (density (passed m) columns) (chain_nets (constraints_of (passed m) columns))

pub passed-bounds : (answer Cp ≡ Ok (record { nets = 2; bound = 2 })) × (answer Cq ≡ Ok (record { nets = 2; bound = 3 }))
unfolding kind_of crosses nets_of column_density density top_columns bottom_columns constraints_of reaches starts longest longest_chain lowest_on_circle
passed-bounds = (refl, refl)
