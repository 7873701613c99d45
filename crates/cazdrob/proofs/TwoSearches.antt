-- Demand 3 of the C functions: what two calls of `cazdrob_search` returned and left.
-- Assumes nothing.
use Rattle.std.proofs.Common.{ℕ, List, length}
use Rattle.channel.specs.Sheet.{Sheet}
use Rattle.search.specs.Returned.{LongEnough}
use Rattle.search.specs.Pair.{Kept}
use Rattle.search.proofs.TwoSearches.{two_searches}
use Rattle.cazdrob.specs.Host.{HostSearches}
use Rattle.cazdrob.proofs.Returned.{library_search}

pub two_host_searches :
    (a c u c' u' : List ℕ) (d n : ℕ) (b e v e' v' : List ℕ) (d' n' : ℕ) → HostSearches a c u c' u' d n → HostSearches b e v e' v' d' n'
    → (s t : Sheet) → LongEnough a s (length c) (length u) → LongEnough b t (length e) (length v) → Kept s t n d n' d' c' e'
two_host_searches a c u c' u' d n b e v e' v' d' n' one two s t long long' =
    rw (one.number, one.density, two.number, two.density)
    (two_searches _ _ _ _ _ _ _ _ _ _ _ _ (library_search one) (library_search two) s t long long')
