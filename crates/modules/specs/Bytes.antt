-- A side of modules as a list of bytes (docs/FORMAT.md, "Modules"): a head of width (1 byte), number of pins (1) and set of allowed left
-- edges (8), then for each pin its offset (1) and its net (2).
-- Assumes nothing.
use Rattle.std.specs.Prelude.{ℕ, zero, suc, ◌+◌, ◌-◌, ◌*◌, List, [], ◌∷◌, cond, length, get_or, leb}
use Rattle.little.specs.Little.{little}
use Rattle.modules.specs.declared.Pin.{Pin}
use Rattle.modules.specs.Modules.{Module}

abbrev pub head_size : ℕ
head_size = 10

abbrev pub pin_size : ℕ
pin_size = 3

unfoldable pub pin_at : List ℕ → ℕ → Pin
pin_at b i = record { offset = get_or b i 0; net = little 2 b (i + 1) }

-- n pins, the first at i
abbrev pub pins_from : List ℕ → ℕ → ℕ → List Pin
pins_from b i zero = []
pins_from b i (suc n) = pin_at b i ∷ pins_from b (i + pin_size) n

-- what stands before a module's pins: its width, its set of allowed left edges and the number of its pins; and where the pins start and
-- the module ends
pub record Head : Type 0 where
  pub width : ℕ
  pub edges : ℕ
  pub count : ℕ
  pub start : ℕ
  pub end : ℕ

-- where a module at i ends by its own number of pins
abbrev pub end_at : List ℕ → ℕ → ℕ
end_at b i = i + head_size + pin_size * get_or b (i + 1) 0

abbrev pub head_at : List ℕ → ℕ → Head
head_at b i =
    record {
      width = get_or b i 0;
      edges = little 8 b (i + 2);
      count = get_or b (i + 1) 0;
      start = i + head_size;
      end = end_at b i;
    }

-- a module that runs past the list's end, n bytes long, has no width and no pins
abbrev pub cut_head : ℕ → Head
cut_head n = record { width = 0; edges = 0; count = 0; start = n; end = n }

unfoldable pub head_in : List ℕ → ℕ → Head
head_in b i = cond (leb (end_at b i) (length b)) (head_at b i) (cut_head (length b))

-- the module of a head
abbrev pub module_of : List ℕ → Head → Module
module_of b h = record { width = h.width; edges = h.edges; pins = pins_from b h.start h.count }

-- at most n modules from i on: the list's end ends the side
abbrev pub modules_from : ℕ → List ℕ → ℕ → List Module
modules_from zero b i = []
modules_from (suc n) b i = cond (leb (length b) i) [] (module_of b (head_in b i) ∷ modules_from n b (head_in b i).end)

-- the modules from i on: none has less than a byte
unfoldable pub modules_at : List ℕ → ℕ → List Module
modules_at b i = modules_from (length b - i) b i

-- a side's modules
abbrev pub modules_in : List ℕ → List Module
modules_in b = modules_at b 0
