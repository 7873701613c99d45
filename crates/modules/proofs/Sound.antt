-- What the tests of modules say: offsets that rise, a valid module, a sound side of modules.
-- Assumes nothing.
use Rattle.std.proofs.Common.{◌≡◌, ℕ, ◌+◌, ◌-◌, ◌<◌, ◌≤◌, true, false, ltb, leb, List, [], ◌∷◌, length, arith, ltb-true, leb-true}
use Rattle.std.proofs.Math.Bool.{and-eq-true_iff}
use Rattle.std.proofs.lemmas.Bool.{not-true}
use Rattle.channel.specs.Sheet.{names_above}
use Rattle.modules.specs.declared.Pin.{Pin}
use Rattle.modules.specs.Modules.{Module, first_offset, last_offset, every, is_rising, is_valid, is_within}

-- offsets that rise from `before` to the width at most
abbrev pub Rising : ℕ → ℕ → List Pin → Type 0
Rising width before [] = before ≤ width
Rising width before (p ∷ ps) = (before < p.offset) × Rising width p.offset ps

pub rises : (w o : ℕ) (ps : List Pin) → is_rising w o ps ≡ true → Rising w o ps
rises w o [] h = leb-true o w h
rises w o (p ∷ ps) h =
    let (a, b) = (and-eq-true_iff (ltb o p.offset) (is_rising w p.offset ps)).0 h in
    (ltb-true o p.offset a, rises w p.offset ps b)

-- they end within the width
pub rising_last : (w o : ℕ) (ps : List Pin) → Rising w o ps → (o ≤ last_offset o ps) × (last_offset o ps ≤ w)
rising_last w o [] h = (omega arith, h)
rising_last w o (p ∷ ps) h = let (a, b) = rising_last w p.offset ps h.1 in (omega arith, b)

-- a module that 16 leaves
pub record Valid (m : Module) : Type 0 where
  pub width : (1 ≤ m.width) × (m.width ≤ 64)
  pub some : 1 ≤ length m.pins
  pub rising : Rising m.width 0 m.pins

pub valid_parts : (m : Module) → is_valid m ≡ true → Valid m
valid_parts m h =
    let (a, b) = (and-eq-true_iff _ _).0 h in
    let (w, x) = (and-eq-true_iff (leb 1 m.width) (leb m.width 64)).0 a in
    let (s, r) = (and-eq-true_iff (leb 1 (length m.pins)) (is_rising m.width 0 m.pins)).0 b in
    record {
      width = (leb-true 1 m.width w, leb-true m.width 64 x);
      some = leb-true 1 (length m.pins) s;
      rising = rises m.width 0 m.pins r;
    }

-- its first and its last offset
pub offsets :
    (m : Module) → Valid m
    → (1 ≤ first_offset m.pins) × (first_offset m.pins ≤ last_offset 0 m.pins) × (last_offset 0 m.pins ≤ m.width)
offsets m s = by-pins m.width m.pins s.some s.rising
  where
    by-pins :
        (w : ℕ) (ps : List Pin) → 1 ≤ length ps → Rising w 0 ps
        → (1 ≤ first_offset ps) × (first_offset ps ≤ last_offset 0 ps) × (last_offset 0 ps ≤ w)
    by-pins w [] some h = absurd (omega arith)
    by-pins w (p ∷ ps) some h = let (a, b) = rising_last w p.offset ps h.1 in (h.0, a, b)

-- a module that 16 and 17 leave in a channel of l columns
pub record SoundModule (l : ℕ) (m : Module) : Type 0 where
  pub valid : Valid m
  pub edges : names_above (l + 1 - m.width) m.edges ≡ false

abbrev pub SoundModules : ℕ → List Module → Type 0
SoundModules l [] = Unit {0}
SoundModules l (m ∷ ms) = SoundModule l m × SoundModules l ms

pub sound-modules :
    (l : ℕ) (ms : List Module) → every is_valid ms ≡ true → every (is_within l) ms ≡ true → SoundModules l ms
sound-modules l [] h e = tt
sound-modules l (m ∷ ms) h e =
    let (h₁, h₂) = (and-eq-true_iff (is_valid m) (every is_valid ms)).0 h in
    let (e₁, e₂) = (and-eq-true_iff (is_within l m) (every (is_within l) ms)).0 e in
    (record { valid = valid_parts m h₁; edges = not-true _ e₁ }, sound-modules l ms h₂ e₂)
