-- Where the test by the ends of the sets says that no distance of a side binds, none does.
-- Assumes nothing.
use Rattle.std.proofs.Common.{ℕ, zero, suc, ◌+◌, ◌-◌, ◌≤◌, ◌<◌, ◌≡◌, refl, sym, ◌∙◌, List, [], ◌∷◌, Bool, true, false, arith, length, leb, leb-true, leb-false}
use Rattle.std.proofs.Math.ListN.{get_or-eq_default}
use Rattle.std.proofs.lemmas.Bool.{true≢false, lt-leb}
use Rattle.channel.specs.Sheet.{Terminal, no_terminal, SoundFrom, names_above}
use Rattle.channel.specs.Assignment.{in_range}
use Rattle.channel.proofs.Sets.{allowed-column}
use Rattle.reach.specs.Reach.{terminal_number}
use Rattle.rules.specs.Sides.{SideRules}
use Rattle.binding.specs.Binding.{none_binds}
use Rattle.binding.proofs.Binding.{none_binds_says}
use Rattle.least_column.specs.LeastColumn.{allowed_to, NoneBinds}
use Rattle.agreement.specs.Ready.{Numbered}

-- a side of a sound sheet has no set with a column above the channel's last, and none behind its last pin
set_named : (l : ℕ) (h : Bool) (ts : List Terminal) (i : ℕ) → SoundFrom l h ts → i < length ts → names_above l (terminal_number ts (suc i)).allowed ≡ false
set_named l h [] i r k = absurd (omega arith)
set_named l h (t ∷ ts) zero r k = r.0.allowed
set_named l h (t ∷ ts) (suc i) r k = set_named l false ts i r.1 (omega arith)

pub column_of_set : (l : ℕ) (ts : List Terminal) (i c : ℕ) → SoundFrom l true ts → allowed_to ts (suc i) c ≡ true → (i < length ts) × (1 ≤ c) × (c ≤ l)
column_of_set l ts i c r e = decide (leb (length ts) i) refl
  where
    decide : (t : Bool) → leb (length ts) i ≡ t → (i < length ts) × (1 ≤ c) × (c ≤ l)
    decide true q = let (low, high) = allowed-column 0 0 c (rw (get_or-eq_default ts no_terminal (leb-true (length ts) i q)) at e) refl in absurd (omega arith)
    decide false q = let less : i < length ts = leb-false (length ts) i q in
        let (low, high) = allowed-column l (terminal_number ts (suc i)).allowed c e (set_named l true ts i r less) in (less, low, high)

-- a pin's column is right of as many columns as there are pins before it
from_number : (ts : List Terminal) → Numbered ts → (i c : ℕ) → allowed_to ts (suc i) c ≡ true → suc i ≤ c
from_number ts numbered i c e = decide (leb (suc i) c) refl
  where
    decide : (t : Bool) → leb (suc i) c ≡ t → suc i ≤ c
    decide true q = leb-true (suc i) c q
    decide false q = absurd (true≢false (sym e ∙ numbered (suc i) c (omega arith) (leb-false (suc i) c q)))

pub none_binds_lem :
    {side l : ℕ} {ts : List Terminal} {rules : List ℕ} → SideRules side ts rules → SoundFrom l true ts → l ≤ 64 → Numbered ts
    → none_binds rules side (length ts) ≡ true → NoneBinds ts
none_binds_lem {side} {l} {ts} {rules} r sound small numbered free = record { ranges = ranges }
  where
    ranges :
        (i a b : ℕ) → a < b → allowed_to ts (suc i) a ≡ true → allowed_to ts (suc (suc i)) b ≡ true
        → in_range (terminal_number ts (suc (suc i))).least (terminal_number ts (suc (suc i))).greatest a b ≡ true
    ranges i a b h ea eb =
        let (k, one, high) = column_of_set l ts (suc i) b sound eb in
        let low : suc i ≤ a = from_number ts numbered i a ea in
        let next : suc (suc i) ≤ b = from_number ts numbered (suc i) b eb in
        let at : a - suc i + suc i ≡ a = omega arith in
        let at_next : b - suc (suc i) + suc (suc i) ≡ b = omega arith in
        let step : a + suc (b - suc (suc i) - (a - suc i)) ≡ b = omega arith in
        let held = none_binds_says rules side (length ts) free i (a - suc i) (b - suc (suc i)) (omega arith) (omega arith) (omega arith)
        (r.allowed (suc i) (a - suc i) (omega arith) (omega arith) ∙ rw at ea)
        (r.allowed (suc (suc i)) (b - suc (suc i)) (omega arith) (omega arith) ∙ rw at_next eb)
        (omega arith) in
        let e = sym (r.range (suc (suc i)) (b - suc (suc i) - (a - suc i)) a (omega arith) (omega arith) (omega arith)) ∙ held in
        rw (step, lt-leb (suc (suc i)) 1 (omega arith)) at e
