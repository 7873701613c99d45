-- `pass::Pass::least` meets its contract. The loop's invariant: under no bound so far can all pins be placed. The measure is what lies up to
-- the greatest density, under which they can.
-- Assumes nothing.
use Rattle.std.proofs.Common.{◌-◌, ◌≡◌, length, drop}
use Rattle.channel.specs.Density.{most_density}
use Rattle.table.specs.Planes.{SameGaps}
use Rattle.bound.specs.Least.{Below}
use Rattle.pass.specs.Pass.{feasible_in, table_end}
use Rattle.pass.proofs.Pass.least.Given as goal

abbrev pub invariant-loop-bound : goal.invariant-loop-bound
invariant-loop-bound l =
    let s = l.self in
    Below (feasible_in s.rules.now.words s.loads.now s.plan) l.bound
    × (length l.work ≡ length l.initial.work)
    × (drop (table_end s.plan) l.work ≡ drop (table_end s.plan) l.initial.work)
    × SameGaps s.plan.grid l.initial.work l.work

abbrev pub decreases-loop-bound : goal.decreases-loop-bound
decreases-loop-bound l = most_density - l.bound
