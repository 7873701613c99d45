-- What 16 and 17 leave of a module, pin by pin: the record of each can be written, and so many bytes hold them.
-- Assumes nothing.
use Rattle.std.proofs.Common.{◌≡◌, ℕ, ◌-◌, ◌*◌, ◌^◌, ◌<◌, ◌≤◌, ◌&&◌, ltb, leb, List, ◌∷◌, length, ap, ◌∙◌, lt_of_le_of_lt, mul-le-mul_left, arith, pow_mono, ltb-true}
use Rattle.std.proofs.Math.Bool.{and-eq-true_iff}
use Rattle.format.specs.Format.{record_size}
use Rattle.encode.specs.Encode.{section_bytes}
use Rattle.encode.proofs.Lengths.{length-section}
use Rattle.modules.specs.declared.Pin.{Pin}
use Rattle.modules.specs.Modules.{Module, inner_terminals, is_rising}
use Rattle.modules.proofs.Sound.{rises, rising_last}
use Rattle.modules.proofs.Terminals.{length_inner}
use Rattle.module_records.specs.Writable.{Room, Later, Writable}

-- what the record of a pin asks
abbrev pub AsksRecord : ℕ → Pin → Type 0
AsksRecord edges p = (1 ≤ p.offset) × (p.offset ≤ 64) × (edges * 2 ^ (p.offset - 1) < 2 ^ 64)

pin_room : (w edges : ℕ) (p : Pin) → Room w edges → 1 ≤ p.offset → p.offset ≤ w → AsksRecord edges p
pin_room w edges p (wide, room) one within =
    (one, omega arith, lt_of_le_of_lt (mul-le-mul_left edges (pow_mono {i = p.offset - 1} {j = w - 1} (omega arith))) room)

-- pins behind one at `before`: the first of them, and those behind it
pub first-later :
    (w edges before : ℕ) {p : Pin} {ps all : List Pin} → all ≡ p ∷ ps → Later w edges before all
    → (before < p.offset) × AsksRecord edges p × Later w edges p.offset ps
first-later w edges before {p} {ps} e (room, h) =
    let (a, rest) = (and-eq-true_iff (ltb before p.offset) (is_rising w p.offset ps)).0 (rw e at h) in
    let rise : before < p.offset = ltb-true before p.offset a in
    let (low, high) = rising_last w p.offset ps (rises w p.offset ps rest) in
    (rise, pin_room w edges p room (omega arith) (omega arith), (room, rest))

-- how many bytes they take
pub length-later : (edges before : ℕ) (ps : List Pin) → length (section_bytes (inner_terminals edges before ps)) ≡ record_size * length ps
length-later edges before ps =
    length-section (inner_terminals edges before ps) ∙ ap (λ (k : ℕ). record_size * k) (length_inner edges before ps)

-- a module's pins stand behind one that would stand at 0
pub module_pins : (m : Module) → Writable m → Later m.width m.edges 0 m.pins
module_pins m (room, valid) =
    let (_, some) = (and-eq-true_iff (leb 1 m.width && leb m.width 64) _).0 valid in
    (room, ((and-eq-true_iff (leb 1 (length m.pins)) (is_rising m.width 0 m.pins)).0 some).1)
