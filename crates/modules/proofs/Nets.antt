-- Nets that are read from a side's list fit two bytes.
-- Assumes nothing.
use Rattle.std.proofs.Common.{ℕ, zero, suc, ◌+◌, ◌-◌, ◌<◌, Bool, true, false, cond, leb, List, [], ◌∷◌, length, get_or}
use Rattle.little.proofs.Laws.{little-below}
use Rattle.modules.specs.declared.Pin.{Pin}
use Rattle.modules.specs.Modules.{Module}
use Rattle.modules.specs.Bytes.{pin_size, pin_at, pins_from, head_in, module_of, modules_from, modules_at, modules_in}

abbrev pub NetsFit : List Pin → Type 0
NetsFit [] = Unit {0}
NetsFit (p ∷ ps) = (p.net < 65536) × NetsFit ps

abbrev pub ModulesFit : List Module → Type 0
ModulesFit [] = Unit {0}
ModulesFit (m ∷ ms) = NetsFit m.pins × ModulesFit ms

module _ (b : List ℕ) (below : (i : ℕ) → get_or b i 0 < 256) where
  pins_fit : (n i : ℕ) → NetsFit (pins_from b i n)
  unfolding pin_at
  pins_fit zero i = tt
  pins_fit (suc n) i = (little-below b below 2 (i + 1), pins_fit n (i + pin_size))

  modules_fit : (n i : ℕ) → ModulesFit (modules_from n b i)
  modules_fit zero i = tt
  modules_fit (suc n) i =
      by_end (module_of b (head_in b i)) (modules_from n b (head_in b i).end) (leb (length b) i)
      (pins_fit (head_in b i).count (head_in b i).start) (modules_fit n (head_in b i).end)
    where
      by_end : (m : Module) (ms : List Module) (t : Bool) → NetsFit m.pins → ModulesFit ms → ModulesFit (cond t [] (m ∷ ms))
      by_end m ms true f g = tt
      by_end m ms false f g = (f, g)

  pub side_fits_lem : ModulesFit (modules_in b)
  unfolding modules_at
  side_fits_lem = modules_fit (length b - 0) 0
