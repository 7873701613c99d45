use Rattle.search.proofs.TwoSearches.{two_searches}
use Rattle.search.proofs.search_both.Goals as goal

pub returns : goal.returns
returns c =
    record {
      first = c.search-first.ensures;
      second = c.search-second.ensures;
      kept = two_searches _ _ _ _ _ _ _ _ _ _ _ _ c.search-first.ensures c.search-second.ensures;
    }
