-- `Pins::len` meets its contract: each pin takes as many bytes.
-- Assumes nothing.
use Rattle.std.proofs.Common.{◌/◌, length, sym}
use Rattle.modules.specs.Bytes.{pin_size}
use Rattle.modules.proofs.Lists.{length-pins}
use Rattle.modules.proofs.Pins.len.Goals as goal

pub returns : goal.returns
returns c =
    let b = c.args.self.now.left.now in
    sym (length-pins b 0 (length b / pin_size))
