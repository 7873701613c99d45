-- `ends::list_nets` meets its contract. The loop's invariant: the nets so far, with those that are still to come, are all of them.
-- Assumes nothing.
use Rattle.std.proofs.Common.{◌≡◌, ◌++◌, ◌+◌, ◌≤◌, length}
use Rattle.channel.specs.Sheet.{nets as nets_of}
use Rattle.format.specs.Parts.{terminals_in}
use Rattle.nets.specs.Left.{nets_to_come}
use Rattle.ends.proofs.list_nets.Given as goal

abbrev pub invariant-loop-net : goal.invariant-loop-net
invariant-loop-net l =
    (l.nets.items ++ nets_to_come l.net-iterator ≡ nets_of (terminals_in l.top ++ terminals_in l.bottom))
    × (length l.nets.items + length (nets_to_come l.net-iterator) ≤ 128)
