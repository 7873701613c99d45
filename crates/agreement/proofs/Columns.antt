-- Where a pin and the pin before it can stand: the table, which counts a side's columns from the number of its pins, says what the
-- model says.
-- Assumes nothing.
use Rattle.std.proofs.Common.{ℕ, suc, ◌+◌, ◌-◌, ◌≤◌, ◌<◌, ◌≡◌, sym, ◌∙◌, ap, ap₂, List, Bool, false, ◌&&◌, arith, length}
use Rattle.std.proofs.Math.Bool.{and_assoc, and-false}
use Rattle.channel.specs.Below.{any_below}
use Rattle.channel.proofs.Below.{any_below_cong, any_below-none, any_below-and, any_below_turn, any_below-from-start, any_below_nested}
use Rattle.channel.specs.Sheet.{Terminal}
use Rattle.channel.specs.Assignment.{allows}
use Rattle.bits.specs.Bits.{bit_of}
use Rattle.arrays.specs.Rules.{range_at, allowed_at}
use Rattle.reach.specs.Reach.{terminal_number, near, stands}
use Rattle.rules.specs.Sides.{SideRules}

-- Of one side: pin k + 1 stands in column x + (k + 1), and the pin before it, of which `more` says where it can stand, in some column
-- left of that and in none below k
pub one_side :
    {side : ℕ} {ts : List Terminal} {rules : List ℕ} → SideRules side ts rules → (k x : ℕ) → k < length ts → x < 64
    → (less more : ℕ → Bool) → ((t : ℕ) → t < k → more t ≡ false) → ((n : ℕ) → n ≤ x → less n ≡ more (n + k))
    → (bit_of (allowed_at rules side (suc k)) x
    && any_below (suc x) (λ (n : ℕ). bit_of (range_at rules side (suc k)) (x - n) && less n))
    ≡ any_below (x + suc k) (λ (t : ℕ). stands ts (suc k) t (x + suc k) && more t)
one_side {side} {ts} {rules} r k x hk hx less more none same =
    ap₂ (λ (a b : Bool). a && b) (r.allowed (suc k) x (omega arith) hk)
    (any_below_cong (suc x) _ _ (λ n l. ap₂ (λ (a b : Bool). a && b) (in_reach n (omega arith)) (same n (omega arith)))
    ∙ sym (any_below-from-start k x open? (λ t l. ap (λ (b : Bool). near? t && b) (none t l) ∙ and-false (near? t))))
    ∙ any_below-and may? (x + suc k) open?
    ∙ any_below_cong (x + suc k) _ _ (λ t l. sym (and_assoc may? (near? t) (more t)))
  where
    may? : Bool
    may? = allows (terminal_number ts (suc k)).allowed (x + suc k)

    near? : ℕ → Bool
    near? t = near ts (suc k) t (x + suc k)

    open? : ℕ → Bool
    open? t = near? t && more t

    in_reach : (n : ℕ) → n ≤ x → bit_of (range_at rules side (suc k)) (x - n) ≡ near? (n + k)
    in_reach n l =
        r.range (suc k) (x - n) (n + k) (omega arith) hk (omega arith)
        ∙ ap (near ts (suc k) (n + k)) (omega arith)

-- Of both sides, with the last pins in one column: one side's test within the other's
pub both_sides :
    {tops bottoms : List Terminal} {rules : List ℕ} → SideRules 0 tops rules → SideRules 1 bottoms rules → (k l x y : ℕ)
    → k < length tops → l < length bottoms → x < 64 → y < 64 → (less more : ℕ → ℕ → Bool)
    → ((t b : ℕ) → (k ≤ t → l ≤ b → ⊥) → more t b ≡ false)
    → ((n m : ℕ) → n ≤ x → m ≤ y → less n m ≡ more (n + k) (m + l))
    → (bit_of (allowed_at rules 0 (suc k)) x
    && (bit_of (allowed_at rules 1 (suc l)) y
    && any_below (suc y)
    (λ (m : ℕ). bit_of (range_at rules 1 (suc l)) (y - m)
    && any_below (suc x) (λ (n : ℕ). bit_of (range_at rules 0 (suc k)) (x - n) && less n m))))
    ≡ any_below (x + suc k)
    (λ (t : ℕ). any_below (y + suc l)
    (λ (b : ℕ). stands tops (suc k) t (x + suc k) && (stands bottoms (suc l) b (y + suc l) && more t b)))
both_sides {tops} {bottoms} {rules} rt rb k l x y hk hl hx hy less more none same =
    any_below_turn may? (bit_of (allowed_at rules 1 (suc l)) y) (suc y) (λ (m : ℕ). bit_of (range_at rules 1 (suc l)) (y - m)) before
    ∙ one_side rb l y hl hy (λ (m : ℕ). may? && before m) after no-bottom
    (λ m h. one_side rt k x hk hx (λ (n : ℕ). less n m) (λ (t : ℕ). more t (m + l)) (no_top (m + l)) (λ n j. same n m j h))
    ∙ any_below_nested (x + suc k) (y + suc l) top? (λ (b : ℕ). stands bottoms (suc l) b (y + suc l)) more
  where
    may? : Bool
    may? = bit_of (allowed_at rules 0 (suc k)) x

    before : ℕ → Bool
    before m = any_below (suc x) (λ (n : ℕ). bit_of (range_at rules 0 (suc k)) (x - n) && less n m)

    top? : ℕ → Bool
    top? t = stands tops (suc k) t (x + suc k)

    after : ℕ → Bool
    after b = any_below (x + suc k) (λ (t : ℕ). top? t && more t b)

    no_top : (b t : ℕ) → t < k → more t b ≡ false
    no_top b t h = none t b (λ p q. omega arith)

    no-bottom : (b : ℕ) → b < l → after b ≡ false
    no-bottom b h =
        any_below-none (x + suc k) _
        (λ t j. ap (λ (a : Bool). top? t && a) (none t b (λ p q. omega arith)) ∙ and-false (top? t))
