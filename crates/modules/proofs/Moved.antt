-- A set moved right: bit c + k of set * 2 ^ k is bit c of the set, there is none at or below k, and a module's set moved to one of its pins
-- names no column outside the channel.
-- Assumes nothing.
use Rattle.std.proofs.Common.{◌≡◌, ℕ, zero, suc, ◌+◌, ◌-◌, ◌*◌, ◌/◌, ◌%◌, ◌^◌, ◌<◌, ◌≤◌, Bool, true, false, not, eqb, leb, ◌↔◌, sym, refl, ap, ◌∙◌, true≢false, lt_of_lt_of_le, mul_assoc, zero-mul, arith, pow_pos, pow_mono, pow-add, shl_lt, leb-false, leb-true}
use Rattle.std.proofs.Math.Nat.{mul-div-mul_right, mul-mod_left}
use Rattle.std.proofs.Math.Pow.{shl-shr}
use Rattle.std.proofs.lemmas.Bool.{not-true}
use Rattle.channel.specs.Sheet.{names_above}
use Rattle.channel.specs.Assignment.{allows}
use Rattle.channel.proofs.Sets.{allowed-column, names_above_exactly}
use Rattle.modules.specs.Modules.{Module, is_within}

-- no column at or below k
pub moved_below : (set k c : ℕ) → c ≤ k → allows (set * 2 ^ k) c ≡ false
moved_below set k zero h = refl
moved_below set k (suc j) h = ap (λ (x : ℕ). eqb x 1) even
  where
    apart : k ≡ (k - suc j + 1) + j
    apart = omega arith

    even : set * 2 ^ k / 2 ^ j % 2 ≡ 0
    even =
        ap (λ (n : ℕ). set * 2 ^ n / 2 ^ j % 2) apart
        ∙ ap (λ (x : ℕ). set * x / 2 ^ j % 2) (pow-add 2 (k - suc j + 1) j)
        ∙ ap (λ (x : ℕ). x / 2 ^ j % 2) (sym (mul_assoc set (2 ^ (k - suc j + 1)) (2 ^ j)))
        ∙ ap (λ (x : ℕ). x % 2) (shl-shr (set * 2 ^ (k - suc j + 1)) j)
        ∙ ap (λ (x : ℕ). set * x % 2) (pow-add 2 (k - suc j) 1)
        ∙ ap (λ (x : ℕ). x % 2) (sym (mul_assoc set (2 ^ (k - suc j)) 2))
        ∙ mul-mod_left (set * 2 ^ (k - suc j)) 2

-- bit c + k of the set moved by k is bit c of the set
pub moved : (set k c : ℕ) → allows (set * 2 ^ k) (c + k) ≡ allows set c
moved set k zero = moved_below set k (0 + k) (omega arith)
moved set k (suc c) =
    ap (allows (set * 2 ^ k)) next
    ∙ ap (λ (x : ℕ). eqb (x % 2) 1)
    (ap (λ (x : ℕ). set * 2 ^ k / x) (pow-add 2 c k) ∙ mul-div-mul_right set (2 ^ c) (pow_pos k))
  where
    next : suc c + k ≡ suc (c + k)
    next = omega arith

-- an edge is allowed exactly when the column of a pin at offset o is in the set moved by o − 1
pub moved_edge : (set o e : ℕ) → 1 ≤ o → allows (set * 2 ^ (o - 1)) (e + o - 1) ≡ allows set e
moved_edge set o e h = ap (allows (set * 2 ^ (o - 1))) same ∙ moved set (o - 1) e
  where
    same : e + o - 1 ≡ e + (o - 1)
    same = omega arith

-- a column in the moved set is that of an allowed edge
pub edge_moved :
    (set o c : ℕ) → 1 ≤ o → allows (set * 2 ^ (o - 1)) c ≡ true → (o ≤ c) × (allows set (c + 1 - o) ≡ true)
edge_moved set o c h a = decide (leb o c) refl
  where
    decide : (t : Bool) → leb o c ≡ t → (o ≤ c) × (allows set (c + 1 - o) ≡ true)
    decide true q =
        let right : o ≤ c = leb-true o c q in
        let same : c ≡ c + 1 - o + (o - 1) = omega arith in
        (right, sym (moved set (o - 1) (c + 1 - o)) ∙ ap (allows (set * 2 ^ (o - 1))) (sym same) ∙ a)
    decide false q =
        let left : c < o = leb-false o c q in
        absurd (true≢false (sym a ∙ moved_below set (o - 1) c (omega arith)))

-- a module's set moved to a pin names no column above l
pub moved_fits : (l w set o : ℕ) → 1 ≤ o → o ≤ w → names_above (l + 1 - w) set ≡ false → set * 2 ^ (o - 1) < 2 ^ l
moved_fits l w set o h g above = decide (leb w l) refl
  where
    small : set < 2 ^ (l + 1 - w)
    small = leb-false (2 ^ (l + 1 - w)) set above

    decide : (t : Bool) → leb w l ≡ t → set * 2 ^ (o - 1) < 2 ^ l
    decide true e =
        let room : w ≤ l = leb-true w l e in
        let within : l + 1 - w + (o - 1) ≤ l = omega arith in
        lt_of_lt_of_le (shl_lt (l + 1 - w) (o - 1) small) (pow_mono within)
    decide false e =
        let room : l < w = leb-false w l e in
        let none : l + 1 - w ≡ 0 = omega arith in
        let less : set < 1 = (rw none at small) in
        let empty : set ≡ 0 = omega arith in
        rw (empty, zero-mul (2 ^ (o - 1))) (pow_pos l)

-- 17 passes a module exactly when at every allowed left edge it ends inside the channel
pub within_exactly : (l : ℕ) (m : Module) → (is_within l m ≡ true) ↔ ((e : ℕ) → allows m.edges e ≡ true → e + m.width ≤ l + 1)
within_exactly l m = (there, λ all. by-test all (names_above (l + 1 - m.width) m.edges) refl)
  where
    there : is_within l m ≡ true → (e : ℕ) → allows m.edges e ≡ true → e + m.width ≤ l + 1
    there h e a = let (one, high) = allowed-column (l + 1 - m.width) m.edges e a (not-true _ h) in omega arith

    by-test :
        ((e : ℕ) → allows m.edges e ≡ true → e + m.width ≤ l + 1) → (t : Bool) → names_above (l + 1 - m.width) m.edges ≡ t
        → not (names_above (l + 1 - m.width) m.edges) ≡ true
    by-test all true e = let (c, high, a) = (names_above_exactly (l + 1 - m.width) m.edges).0 e in absurd (omega (arith, all c a))
    by-test all false e = rw e
