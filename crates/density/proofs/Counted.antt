-- The density of a column list is the greatest of the counts of its columns.
-- Assumes nothing.
use Rattle.std.proofs.Common.{◌≡◌, ℕ, ◌<◌, List, ◌++◌, ap, ◌∙◌}
use Rattle.channel.specs.Sheet.{Sheet, all_nets}
use Rattle.channel.specs.Density.{Pin, straight_in, maximum_to, density}
use Rattle.channel.specs.Spans.{sum_last}
use Rattle.channel.proofs.Spans.{density-spans}
use Rattle.ends.proofs.Pins.{pins-nets}
use Rattle.density.specs.Counted.{net_spans, counted_at}

-- the density is the greatest of the counts
pub density_counted :
    (s : Sheet) (cs : List ℕ) → s.columns < 255 → density s cs ≡ maximum_to s.columns (counted_at s.mark (all_nets s) cs)
unfolding counted_at
density_counted s cs h =
    density-spans s cs h
    ∙ ap (λ (ps : List Pin). maximum_to s.columns (λ (c : ℕ). sum_last (net_spans (straight_in s) ps c) (all_nets s)))
    (pins-nets (s.top ++ s.bottom) cs)
