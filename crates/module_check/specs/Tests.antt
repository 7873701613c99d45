-- The tests behind 16, 17, 4 and 6, of one side (document 02, T-02).
-- Assumes nothing.
use Rattle.std.specs.Prelude.{ℕ, ◌+◌, List, ◌&&◌, length}
use Rattle.modules.specs.declared.Pin.{Pin}
use Rattle.modules.specs.Modules.{Module, pin_count, every, is_rising, is_valid, are_valid, is_within, pins_named, is_named}
use Rattle.module_check.specs.declared.Tests.{Tests}
use Rattle.module_check.specs.declared.PinTests.{PinTests}

-- of pins in a module so wide
abbrev pub pin_tests_of : ℕ → List Pin → PinTests
pin_tests_of width ps = record { rising = is_rising width 0 ps; named = pins_named ps }

-- of one module
abbrev pub module_tests : ℕ → Module → Tests
module_tests l m = record { pins = length m.pins; valid = is_valid m; within = is_within l m; named = is_named m }

-- of modules, however many
abbrev pub all_tests : ℕ → List Module → Tests
all_tests l ms =
    record { pins = pin_count ms; valid = every is_valid ms; within = every (is_within l) ms; named = every is_named ms }

-- of some modules and others
abbrev pub combined : Tests → Tests → Tests
combined t u =
    record {
      pins = t.pins + u.pins;
      valid = t.valid && u.valid;
      within = t.within && u.within;
      named = t.named && u.named;
    }

-- of a side of modules in a channel of l columns
abbrev pub tests_of : ℕ → List Module → Tests
tests_of l ms =
    record { pins = pin_count ms; valid = are_valid ms; within = every (is_within l) ms; named = every is_named ms }
