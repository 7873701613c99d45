-- Why the two words that are made for a terminal are its rule.
-- Assumes nothing.
use Rattle.std.proofs.Common.{ℕ, zero, suc, ◌+◌, ◌-◌, ◌/◌, ◌%◌, ◌^◌, ◌≤◌, ◌<◌, ◌≡◌, sym, ◌∙◌, ap, List, arith, zero-add, suc-add, add-one, leb, eqb, le-leb}
use Rattle.std.proofs.Math.Dec.{leb-suc-suc}
use Rattle.std.proofs.lemmas.Bool.{lt-leb}
use Rattle.channel.specs.Sheet.{Terminal}
use Rattle.channel.specs.Assignment.{allows, in_range}
use Rattle.channel.proofs.Sets.{allows_at}
use Rattle.terminal.specs.declared.Record.{Record}
use Rattle.terminal.specs.Terminal.{terminal_of}
use Rattle.reach.specs.Reach.{terminal_number}
use Rattle.bits.specs.Bits.{bit_of}
use Rattle.bits.proofs.Laws.{bit_shr, bit-full}
use Rattle.rules.specs.Sides.{TerminalRule}

-- a number added on both sides of a test
leb-add : (t a b : ℕ) → leb (t + a) (t + b) ≡ leb a b
leb-add zero a b = rw (zero-add a, zero-add b)
leb-add (suc t) a b = rw (suc-add t a, suc-add t b) (leb-suc-suc (t + a) (t + b) ∙ leb-add t a b)

-- a distance is in range or not wherever the terminal before stands
range_shift : (least greatest e t : ℕ) → in_range least greatest 0 (e + 1) ≡ in_range least greatest t (t + suc e)
range_shift least greatest e t =
    rw (add-one e, zero-add least, zero-add greatest, leb-add t least (suc e), leb-add t (suc e) greatest)

-- bit x of a set shifted down by i - 1 is the column x + i
allowed_shift : (set i x : ℕ) → 1 ≤ i → bit_of (set / 2 ^ (i - 1)) x ≡ allows set (x + i)
unfolding bit_of
allowed_shift set i x h =
    bit_shr set (i - 1) x ∙ ap (λ (k : ℕ). eqb (set / 2 ^ k % 2) 1) (omega arith) ∙ sym (allows_at set (x + i) (omega arith))

-- the terminal at a place
module _ (ts : List Terminal) (place : ℕ) (r : Record) (p : 1 ≤ place) (is : terminal_number ts place ≡ terminal_of r) where
  -- its set, shifted down
  allowed-word : (x : ℕ) → bit_of (r.allowed / 2 ^ (place - 1)) x ≡ allows (terminal_number ts place).allowed (x + place)
  allowed-word x = allowed_shift r.allowed place x p ∙ ap (λ (t : Terminal). allows t.allowed (x + place)) (sym is)

  -- the first terminal's rule has every distance, and a later one's those in its range
  pub first_rule : place ≡ 1 → TerminalRule ts place 18446744073709551615 (r.allowed / 2 ^ (place - 1))
  first_rule one =
      record {
        range = λ k t h. bit-full k h ∙ sym (rw (le-leb place 1 (omega arith)));
        allowed = allowed-word;
      }

  pub later_rule :
      (place ≡ 1 → ⊥) → (w : ℕ) → ((k : ℕ) → k < 64 → bit_of w k ≡ in_range r.least r.greatest 0 (k + 1))
      → TerminalRule ts place w (r.allowed / 2 ^ (place - 1))
  later_rule later w within =
      record {
        range =
            λ k t h.
            within k h
            ∙ range_shift r.least r.greatest k t
            ∙ ap (λ (q : Terminal). in_range q.least q.greatest t (t + suc k)) (sym is)
            ∙ sym (rw (lt-leb place 1 (omega arith)));
        allowed = allowed-word;
      }
