-- The sheet of two sides of modules that no answer refuses is sound, and its numbers fit their bytes.
-- Assumes nothing.
use Rattle.std.proofs.Common.{◌≡◌, ℕ, ◌+◌, ◌-◌, ◌*◌, ◌^◌, ◌<◌, ◌≤◌, Bool, true, false, not, eqb, List, [], ◌∷◌, ◌++◌, length, refl, lt_of_lt_of_le, arith, pow_mono, le-leb}
use Rattle.std.proofs.Math.Bool.{and-eq-true_iff}
use Rattle.std.proofs.lemmas.Bool.{lt-leb, not-true}
use Rattle.channel.specs.Sheet.{Terminal, SoundTerminal, SoundFrom, distances_hold, names_above, Sound}
use Rattle.channel.proofs.Sides.{Each}
use Rattle.encode.specs.Encode.{EncodableTerminal, EncodableSide, Encodable}
use Rattle.modules.specs.declared.Pin.{Pin}
use Rattle.modules.specs.Modules.{Module, pin_count, first_offset, gap_of, pin_terminal, inner_terminals, pin_terminals}
use Rattle.modules.specs.Modules.{first_least, first_greatest, terminals_behind, side_terminals, module_sheet, every, pins_named, is_named}
use Rattle.modules.proofs.Moved.{moved_fits}
use Rattle.modules.proofs.Nets.{NetsFit, ModulesFit}
use Rattle.modules.proofs.Sound.{Rising, rising_last, offsets, SoundModules}
use Rattle.modules.proofs.Terminals.{length-terminals}

-- a terminal that is sound and whose numbers fit their bytes
abbrev Good : ℕ → Bool → Terminal → Type 0
Good l is_first t = SoundTerminal l is_first t × EncodableTerminal t

good_sound : (l : ℕ) (is_first : Bool) (ts : List Terminal) → Each (Good l) is_first ts → SoundFrom l is_first ts
good_sound l is_first [] h = tt
good_sound l is_first (t ∷ ts) h = (h.0.0, good_sound l false ts h.1)

good_fits : (l : ℕ) (is_first : Bool) (ts : List Terminal) → Each (Good l) is_first ts → EncodableSide ts
good_fits l is_first [] h = tt
good_fits l is_first (t ∷ ts) h = (h.0.1, good_fits l false ts h.1)

-- one pin, with a distance pair that is sound where it stands
module _ (l w edges : ℕ) (short : l ≤ 64) (above : names_above (l + 1 - w) edges ≡ false) where
  pin_good :
      (least greatest : ℕ) (is_first : Bool) (p : Pin) → 1 ≤ p.offset → p.offset ≤ w → not (eqb p.net 0) ≡ true → p.net < 65536
      → distances_hold is_first (pin_terminal edges least greatest p) ≡ true → least < 256 → greatest < 256
      → Good l is_first (pin_terminal edges least greatest p)
  pin_good least greatest is_first p one within net fits range lo hi =
      let moved : edges * 2 ^ (p.offset - 1) < 2 ^ l = moved_fits l w edges p.offset one within above in (
        record { net = not-true _ net; distances = range; allowed = lt-leb (2 ^ l) (edges * 2 ^ (p.offset - 1)) moved },
        record { net = fits; least = lo; greatest = hi; allowed = lt_of_lt_of_le moved (pow_mono {j = 64} short) },
      )

  -- a module's pins, with what stands behind them
  module _ (wide : w ≤ 64) (ts : List Terminal) (behind : Each (Good l) false ts) where
    inner-good :
        (o : ℕ) (ps : List Pin) → Rising w o ps → pins_named ps ≡ true → NetsFit ps → Each (Good l) false (inner_terminals edges o ps ++ ts)
    inner-good o [] r n f = behind
    inner-good o (p ∷ ps) r n f =
        let rise : o < p.offset = r.0 in
        let (low, high) = rising_last w p.offset ps r.1 in
        let (named, rest) = (and-eq-true_iff (not (eqb p.net 0)) (pins_named ps)).0 n in (
          pin_good (p.offset - o) (p.offset - o) false p (omega arith) (omega arith) named f.0
              (rw (le-leb 1 (p.offset - o) (omega arith), le-leb (p.offset - o) (p.offset - o) (omega arith))) (omega arith)
              (omega arith),
          inner-good p.offset ps r.1 rest f.1,
        )

    pins-good :
        (is_first : Bool) (least greatest : ℕ) (pins : List Pin) → 1 ≤ length pins → Rising w 0 pins → pins_named pins ≡ true → NetsFit pins
        → ((p : Pin) → distances_hold is_first (pin_terminal edges least greatest p) ≡ true) → least < 256 → greatest < 256
        → Each (Good l) is_first (pin_terminals edges least greatest pins ++ ts)
    pins-good is_first least greatest [] some r n f range lo hi = absurd (omega arith)
    pins-good is_first least greatest (p ∷ ps) some r n f range lo hi =
        let (low, high) = rising_last w p.offset ps r.1 in
        let (named, rest) = (and-eq-true_iff (not (eqb p.net 0)) (pins_named ps)).0 n in (
          pin_good least greatest is_first p r.0 (omega arith) named f.0 (range p) lo hi,
          inner-good p.offset ps r.1 rest f.1,
        )

-- the distance pair of a module's first pin
first-pair :
    (is_first : Bool) (edges gap o : ℕ) → gap ≤ 64 → 1 ≤ o → o ≤ 64
    → ((p : Pin) → distances_hold is_first (pin_terminal edges (first_least is_first gap o) (first_greatest is_first) p) ≡ true)
    × (first_least is_first gap o < 256) × (first_greatest is_first < 256)
first-pair true edges gap o h one g = (λ p. refl, omega arith, omega arith)
first-pair false edges gap o h one g =
    (λ p. rw (le-leb 1 (gap + o) (omega arith), le-leb (gap + o) 255 (omega arith)), omega arith, omega arith)

-- the modules of a side
behind_good :
    (l : ℕ) → l ≤ 64 → (is_first : Bool) (gap : ℕ) (ms : List Module) → gap ≤ 64 → SoundModules l ms → every is_named ms ≡ true → ModulesFit ms
    → Each (Good l) is_first (terminals_behind is_first gap ms)
behind_good l short is_first gap [] h s n f = tt
behind_good l short is_first gap (m ∷ ms) h s n f =
    let (one, low, high) = offsets m s.0.valid in
    let (_, wide) = s.0.valid.width in
    let (named, rest) = (and-eq-true_iff (is_named m) (every is_named ms)).0 n in
    let (range, lo, hi) = first-pair is_first m.edges gap (first_offset m.pins) h one (omega arith) in
    pins-good l m.width m.edges short s.0.edges wide (terminals_behind false (gap_of m) ms)
    (behind_good l short false (gap_of m) ms (omega arith) s.1 rest f.1) is_first _ _ m.pins s.0.valid.some
    s.0.valid.rising named f.0 range lo hi

-- both sides, within their limits
module _
    (l : ℕ) (top bottom : List Module) (columns : (1 ≤ l) × (l ≤ 64)) (counts : (pin_count top ≤ 64) × (pin_count bottom ≤ 64))
    (st : SoundModules l top) (sb : SoundModules l bottom) (nt : every is_named top ≡ true) (nb : every is_named bottom ≡ true)
    (ft : ModulesFit top) (fb : ModulesFit bottom) where
  pub modules-sound : Sound (module_sheet l top bottom)
  modules-sound =
      record {
        columns = columns;
        counts = (rw length-terminals counts.0, rw length-terminals counts.1);
        top = good_sound l true (side_terminals top) (behind_good l columns.1 true 0 top (omega arith) st nt ft);
        bottom = good_sound l true (side_terminals bottom) (behind_good l columns.1 true 0 bottom (omega arith) sb nb fb);
      }

  pub modules_encodable : Encodable (module_sheet l top bottom)
  modules_encodable =
      record {
        top = good_fits l true (side_terminals top) (behind_good l columns.1 true 0 top (omega arith) st nt ft);
        bottom = good_fits l true (side_terminals bottom) (behind_good l columns.1 true 0 bottom (omega arith) sb nb fb);
      }
