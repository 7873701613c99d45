-- What is still to come of a side's modules, and of a module's pins, as its iterators give them.
-- Assumes nothing.
use Rattle.std.specs.Prelude.{ℕ, ◌≡◌, ◌/◌, List, length, drop}
use Rattle.modules.specs.declared.Pin.{Pin}
use Rattle.modules.specs.declared.Pins.{Pins}
use Rattle.modules.specs.declared.Modules.{Modules}
use Rattle.modules.specs.declared.Module as lent
use Rattle.modules.specs.Modules.{Module}
use Rattle.modules.specs.Bytes.{pin_size, pins_from, head_in, module_of, modules_in}

abbrev pub pins_left : Pins → List Pin
pins_left p = pins_from p.left.now 0 (length p.left.now / pin_size)

-- a module as given, with all its pins to come
abbrev pub module_left : lent.Module → Module
module_left m = record { width = m.width; edges = m.edges; pins = pins_left m.pins }

abbrev pub modules_left : Modules → List Module
modules_left m = modules_in m.left.now

-- a module as given is the first of a list, and these bytes stand behind it
abbrev pub IsFirst : List ℕ → lent.Module → List ℕ → Type 0
IsFirst b m behind = (module_left m ≡ module_of b (head_in b 0)) × (behind ≡ drop (head_in b 0).end b)
