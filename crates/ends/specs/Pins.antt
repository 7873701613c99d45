-- The pins of a column list.
-- Assumes nothing.
use Rattle.std.specs.Prelude.{List}
use Rattle.channel.specs.Density.{Pin}
use Rattle.ends.specs.declared.PinList.{PinList}
use Rattle.ends.specs.Ends.{pins_of}

abbrev pub pins_in : PinList → List Pin
pins_in pins = pins_of pins.nets.now pins.columns.now
