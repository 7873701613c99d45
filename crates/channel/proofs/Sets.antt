-- Laws of allowed sets: which columns a set names, and that `names_above` says what its name says.
-- Assumes nothing.
use Rattle.std.proofs.Common.{◌≡◌, ℕ, zero, suc, ◌+◌, ◌-◌, ◌*◌, ◌/◌, ◌%◌, ◌^◌, ◌<◌, ◌≤◌, Bool, true, false, not, eqb, leb, ◌↔◌, sym, refl, ap, ◌∙◌, true≢false, div-lt_iff_lt-mul, le-div_iff_mul-le, div-one, arith, pow_pos, shr-shr, eq-eqb, ne_eqb, eqb-true, leb-false, leb-true}
use Rattle.std.proofs.Math.Arith.{bin_ind}
use Rattle.std.proofs.Math.Nat.{div-eq_of_lt}
use Rattle.std.proofs.lemmas.Bool.{eqb-false, true_from_ne_false}
use Rattle.std.proofs.lemmas.Nat.Bits.{bit_at_above}
use Rattle.channel.specs.Sheet.{names_above}
use Rattle.channel.specs.Assignment.{allows}

-- of a column that is not 0, the set's bit decides
pub allows_at : (set c : ℕ) → (c ≡ 0 → ⊥) → allows set c ≡ eqb (set / 2 ^ (c - 1) % 2) 1
allows_at set zero h = absurd (h refl)
allows_at set (suc c) h = ap (λ (k : ℕ). eqb (set / 2 ^ k % 2) 1) (omega arith)

-- a set below 2 ^ l names no column above l
pub allows-below : (set l c : ℕ) → set < 2 ^ l → l < c → allows set c ≡ false
allows-below set l zero h k = elim k [ ]
allows-below set l (suc c) h k = ap (λ (n : ℕ). eqb n 1) (bit_at_above set l c h (omega arith))

-- an allowed column of a set that names none above l is one of the columns 1 to l
pub allowed-column : (l set c : ℕ) → allows set c ≡ true → names_above l set ≡ false → (1 ≤ c) × (c ≤ l)
allowed-column l set zero h above = absurd (true≢false (sym h))
allowed-column l set (suc c) h above = (omega arith, decide (leb (suc c) l) refl)
  where
    decide : (t : Bool) → leb (suc c) l ≡ t → suc c ≤ l
    decide true q = leb-true (suc c) l q
    decide false q =
        absurd (true≢false (sym h ∙ allows-below set l (suc c) (leb-false (2 ^ l) set above) (leb-false (suc c) l q)))

-- a number has a bit at l or higher exactly when its quotient by 2 ^ l is not 0
pub names_above_quotient : (l set : ℕ) → not (eqb (set / 2 ^ l) 0) ≡ names_above l set
names_above_quotient l set = by-test (leb (2 ^ l) set) refl
  where
    by-test : (b : Bool) → leb (2 ^ l) set ≡ b → not (eqb (set / 2 ^ l) 0) ≡ leb (2 ^ l) set
    by-test true e = ap not (ne_eqb _ 0 (λ z. high ((div-lt_iff_lt-mul (pow_pos l)).0 (less z)))) ∙ sym e
      where
        high : set < 1 * 2 ^ l → ⊥
        high h = omega (arith, leb-true (2 ^ l) set e)

        less : set / 2 ^ l ≡ 0 → set / 2 ^ l < 1
        less z = omega arith
    by-test false e = rw (div-eq_of_lt (leb-false _ _ e)) (sym e)

-- a number that is not 0 has a bit
bit_of_lem : (m : ℕ) → 0 < m → (k : ℕ) × (m / 2 ^ k % 2 ≡ 1)
bit_of_lem = bin_ind (λ (m : ℕ). 0 < m → (k : ℕ) × (m / 2 ^ k % 2 ≡ 1)) (λ h. absurd (omega arith)) step
  where
    step : (m : ℕ) → (0 < m / 2 → (k : ℕ) × (m / 2 / 2 ^ k % 2 ≡ 1)) → 0 < m → (k : ℕ) × (m / 2 ^ k % 2 ≡ 1)
    step m half h = by-test (eqb (m % 2) 1) refl
      where
        by-test : (b : Bool) → eqb (m % 2) 1 ≡ b → (k : ℕ) × (m / 2 ^ k % 2 ≡ 1)
        by-test true e = (0, rw div-one (eqb-true _ _ e))
        by-test false e = let (k, p) = half (omega (arith, eqb-false (m % 2) 1 e)) in (1 + k, rw (← shr-shr m 1 k) p)

-- the test behind 8 is true exactly when the set names some column above l
pub names_above_exactly : (l set : ℕ) → (names_above l set ≡ true) ↔ ((c : ℕ) × (l < c) × (allows set c ≡ true))
names_above_exactly l set = (there, λ w. true_from_ne_false _ (back w))
  where
    there : names_above l set ≡ true → (c : ℕ) × (l < c) × (allows set c ≡ true)
    there e =
        let (k, p) = bit_of_lem (set / 2 ^ l) ((le-div_iff_mul-le (pow_pos l)).1 (omega (arith, leb-true (2 ^ l) set e))) in
        (suc (l + k), omega arith, eq-eqb (set / 2 ^ (l + k) % 2) 1 (rw (← shr-shr set l k) p))

    back : ((c : ℕ) × (l < c) × (allows set c ≡ true)) → leb (2 ^ l) set ≡ false → ⊥
    back (c, h, a) e = true≢false (sym a ∙ allows-below set l c (leb-false _ _ e) h)
