-- `module_check::check_pins` meets its contract: the pins passed and the pins left make the module's.
-- Assumes nothing.
use Rattle.std.proofs.Common.{◌≡◌, ◌&&◌}
use Rattle.modules.specs.Modules.{is_rising, pins_named}
use Rattle.modules.specs.Left.{pins_left}
use Rattle.module_check.proofs.check_pins.Given as goal

abbrev pub invariant-loop-pin : goal.invariant-loop-pin
invariant-loop-pin l =
    ((l.rising && is_rising l.width l.before (pins_left l.pin-iterator)) ≡ is_rising l.width 0 (pins_left l.fn.pins))
    × ((l.named && pins_named (pins_left l.pin-iterator)) ≡ pins_named (pins_left l.fn.pins))
