-- The pins of terminals are those of their nets.
-- Assumes nothing.
use Rattle.std.proofs.Common.{◌≡◌, ℕ, List, [], ◌∷◌, refl, ap}
use Rattle.channel.specs.Sheet.{Terminal, nets}
use Rattle.channel.specs.Density.{Pin, pins}
use Rattle.ends.specs.Ends.{pins_of}

pub pins-nets : (ts : List Terminal) (cs : List ℕ) → pins ts cs ≡ pins_of (nets ts) cs
pins-nets [] cs = refl
pins-nets (t ∷ ts) [] = refl
pins-nets (t ∷ ts) (c ∷ cs) = ap (λ (ps : List Pin). record { net = t.net; column = c } ∷ ps) (pins-nets ts cs)
