-- The nets of a list that are still to come, each once.
-- Assumes nothing.
use Rattle.std.specs.Prelude.{ℕ, List}
use Rattle.channel.specs.Density.{distinct}
use Rattle.nets.specs.declared.Distinct.{Distinct}

abbrev pub nets_left : Distinct → List ℕ
nets_left d = distinct d.left.now
