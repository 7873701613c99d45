-- `module_check::check_modules` meets its contract: the modules passed and the modules left make the side's.
-- Assumes nothing.
use Rattle.std.proofs.Common.{◌≡◌, ◌+◌, length}
use Rattle.modules.specs.Bytes.{modules_in}
use Rattle.modules.specs.Left.{modules_left}
use Rattle.module_check.specs.Tests.{all_tests, combined}
use Rattle.module_check.proofs.check_modules.Given as goal

abbrev pub invariant-loop-m : goal.invariant-loop-m
invariant-loop-m l =
    (combined l.all (all_tests l.columns (modules_left l.m-iterator)) ≡ all_tests l.columns (modules_in l.side))
    × (l.count + length (modules_left l.m-iterator) ≡ length (modules_in l.side))
