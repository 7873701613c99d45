-- Laws of texts written one after the other.
-- Assumes nothing.
use Rattle.std.proofs.Common.{◌≡◌, ℕ, suc, ◌+◌, ◌-◌, ◌/◌, ◌%◌, ◌≤◌, List, [], ◌∷◌, ◌++◌, length, set, sym, refl, ap, ◌∙◌, subst, add-zero, arith, length-append}
use Rattle.std.proofs.Math.Seq.{sets, length-sets}
use Rattle.text.specs.Digits.{digits}
use Rattle.text.specs.Writing.{Wrote, Writes}
use Rattle.text.specs.declared.Writer.{Writer}
use Rattle.text.proofs.Numbers.{digits_more}

pub wrote_nothing : (old : List ℕ) (at : ℕ) → Wrote old at [] old at
wrote_nothing old at = record { bytes = refl; place = sym (add-zero at) }

pub kept : {old text new : List ℕ} {at end : ℕ} → Wrote old at text new end → length new ≡ length old
kept {old} {text} {new} {at} w = ap length w.bytes ∙ length-sets old at text

-- a text by another name
pub same_text : {old t u new : List ℕ} {at end : ℕ} → t ≡ u → Wrote old at t new end → Wrote old at u new end
same_text {old} {new = new} {at} {end} e w = subst (λ (k : List ℕ). Wrote old at k new end) e w

-- a second text behind the first
sets_append : (old t u : List ℕ) (at : ℕ) → sets (sets old at t) (at + length t) u ≡ sets old at (t ++ u)
sets_append old [] u at = ap (λ (k : ℕ). sets old k u) (add-zero at)
sets_append old (x ∷ t) u at =
    ap (λ (k : ℕ). sets (sets (set old at x) (suc at) t) k u) (omega arith) ∙ sets_append (set old at x) t u (suc at)

pub after :
    {old t mid u new : List ℕ} {at end end' : ℕ} → Wrote old at t mid end → Wrote mid end u new end' → Wrote old at (t ++ u) new end'
after {old} {t} {mid} {u} {new} {at} v w =
    record {
      bytes = w.bytes ∙ rw (v.bytes, v.place) (sets_append old t u at);
      place = w.place ∙ rw (v.place, length-append t u) (omega arith);
    }

-- the same of writers
pub written_nothing : {a : Writer} → Writes a a []
written_nothing = record { wrote = wrote_nothing _ _; buffer = refl; room = refl }

pub behind : {a b c : Writer} {t u : List ℕ} → Writes a b t → Writes b c u → Writes a c (t ++ u)
behind v w = record { wrote = after v.wrote w.wrote; buffer = w.buffer ∙ v.buffer; room = w.room ∙ v.room }

pub same_written : {a b : Writer} {t u : List ℕ} → t ≡ u → Writes a b t → Writes a b u
same_written e w = record { wrote = same_text e w.wrote; buffer = w.buffer; room = w.room }

-- a number's last digit behind the others
module _ {old : List ℕ} {at : ℕ} {new : List ℕ} {end : ℕ} (n most : ℕ) (digit : ℕ) (some : most ≡ 0 → ⊥) where
  pub wrote_digits :
      {mid : List ℕ} {place : ℕ} → 10 ≤ n → digit ≡ 48 + n % 10 → Wrote old at (digits (most - 1) (n / 10)) mid place
      → Wrote mid place (digit ∷ []) new end → Wrote old at (digits most n) new end
  wrote_digits h e v w =
      same_text (ap (λ (d : ℕ). digits (most - 1) (n / 10) ++ (d ∷ [])) e ∙ digits_more most n some h) (after v w)
