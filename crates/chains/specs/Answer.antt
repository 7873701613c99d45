-- What the longest chain of a column list is, or why there is none (document 02, T-06).
-- Assumes nothing.
use Rattle.std.specs.Prelude.{ℕ, max, List, Result, Ok, Err}
use Rattle.channel.specs.Sheet.{Sheet}
use Rattle.channel.specs.Density.{density}
use Rattle.soundness.specs.Read.{sheet_of}
use Rattle.refusals.specs.declared.ListRefusal.{ListRefusal}
use Rattle.sheet.specs.declared.Layout.{Layout}
use Rattle.list.specs.Answer.{listed_of}
use Rattle.constraints.specs.Listed.{constraints_of}
use Rattle.chained.specs.declared.Chain.{Chain}
use Rattle.chained.specs.declared.ChainRefusal.{ChainRefusal}
use Rattle.chained.specs.declared.ChainRefusal.TheVariants.{Listed}
use Rattle.chains.specs.Chains.{chain_nets}

-- "the greater of that and the density, the lower bound of document 002"
abbrev pub with_bound : ℕ → Result ℕ ChainRefusal → Result Chain ChainRefusal
with_bound d (Ok nets) = Ok (record { nets = nets; bound = max nets d })
with_bound d (Err why) = Err why

-- "19, after 14"
abbrev pub chained_as : Sheet → List ℕ → Result Layout ListRefusal → Result Chain ChainRefusal
chained_as s cs (Ok n) = with_bound (density s cs) (chain_nets (constraints_of s cs))
chained_as s cs (Err why) = Err (Listed why)

-- of a sheet's bytes and a column list
unfoldable pub chained_of : List ℕ → List ℕ → Result Chain ChainRefusal
chained_of b cs = chained_as (sheet_of b) cs (listed_of b cs)
