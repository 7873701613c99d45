-- There are no more nets than turns, so that the next one fits.
use Rattle.std.proofs.Common.{◌≤◌}
use Rattle.arrayvec.specs.ArrayVec.{array_vec_len}
use Rattle.enumeration.proofs.sheets.Sheet.nets.Given as goal

abbrev pub invariant-loop-terminal : goal.invariant-loop-terminal
invariant-loop-terminal l = array_vec_len l.nets ≤ l.terminal-index
