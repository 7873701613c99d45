-- `Order::least_bound` meets its contract. The loop's invariant: by order, no bound so far is enough. The measure is what lies up to the
-- greatest density, which is.
-- Assumes nothing.
use Rattle.std.proofs.Common.{◌-◌, ◌≡◌, length, drop}
use Rattle.channel.specs.Density.{most_density}
use Rattle.bound.specs.Least.{Below}
use Rattle.least.specs.Table.{cells_of, fits_by_order}
use Rattle.least.proofs.Order.least_bound.Given as goal

abbrev pub invariant-loop-bound : goal.invariant-loop-bound
invariant-loop-bound l =
    let s = l.self in
    Below (fits_by_order s.rules.now.words s.loads.now s.l s.p s.q) l.bound
    × (length l.work ≡ length l.initial.work)
    × (drop (cells_of s.p s.q) l.work ≡ drop (cells_of s.p s.q) l.initial.work)

abbrev pub decreases-loop-bound : goal.decreases-loop-bound
decreases-loop-bound l = most_density - l.bound
