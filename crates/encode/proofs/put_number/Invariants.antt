-- `encode::put_number` meets its contract: each turn writes the lowest byte of the rest, and leaves the bytes of its quotient.
-- Assumes nothing.
use Rattle.std.proofs.Common.{◌-◌, ◌≡◌}
use Rattle.encode.specs.Encode.{bytes}
use Rattle.encode.proofs.Left.{Left}
use Rattle.encode.proofs.put_number.Given as goal

abbrev pub invariant-loop-i : goal.invariant-loop-i
invariant-loop-i l =
    Left l.initial.out.out.now l.initial.out.end (bytes l.n l.value) l.out.out.now l.out.end (bytes (l.n - l.i) l.rest)
    × (l.out.out.ghost_name ≡ l.initial.out.out.ghost_name)
