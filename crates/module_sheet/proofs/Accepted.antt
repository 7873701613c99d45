-- What holds of two sides of modules that no answer refuses, and that their sheet can be written.
-- Assumes nothing.
use Rattle.std.proofs.Common.{◌≡◌, ℕ, ◌≤◌, Bool, true, false, ◌&&◌, leb, List, [], ◌∷◌, length, Ok, Err, Result, refl, lt_of_lt_of_le, arith, pow_mono, leb-true}
use Rattle.std.proofs.Math.Bool.{and-eq-true_iff}
use Rattle.std.proofs.lemmas.Bool.{not-true}
use Rattle.refusals.specs.declared.Refusal.TheVariants.{Length, Count, Net}
use Rattle.encode.specs.Encode.{sheet_size}
use Rattle.modules.specs.Modules.{Module, pin_count, every, is_valid, are_valid, is_within, is_named}
use Rattle.modules.proofs.Moved.{moved_fits}
use Rattle.modules.proofs.Sound.{valid_parts}
use Rattle.module_check.specs.Tests.{tests_of, combined}
use Rattle.module_records.specs.Writable.{AllWritable}
use Rattle.made.specs.declared.ModuleRefusal.{ModuleRefusal}
use Rattle.made.specs.declared.ModuleRefusal.TheVariants.{Sheet as Unsound, Module as Invalid, Edge, SheetBuffer}
use Rattle.made.specs.Numbers.{number_of}
use Rattle.module_sheet.specs.Answer.{unless, answer_of, answer_in}

pub record Accepted (l : ℕ) (top bottom : List Module) (room : ℕ) : Type 0 where
  pub answer : answer_in l top bottom room ≡ Ok (sheet_size (pin_count top) (pin_count bottom))
  pub columns : (1 ≤ l) × (l ≤ 64)
  pub valid : (every is_valid top ≡ true) × (every is_valid bottom ≡ true)
  pub within : (every (is_within l) top ≡ true) × (every (is_within l) bottom ≡ true)
  pub counts : (pin_count top ≤ 64) × (pin_count bottom ≤ 64)
  pub named : (every is_named top ≡ true) × (every is_named bottom ≡ true)
  pub size : sheet_size (pin_count top) (pin_count bottom) ≤ room

-- an answer with number 0 comes from no refusal
passes : (t : Bool) (why next : Result ℕ ModuleRefusal) → (number_of why ≡ 0 → ⊥) → number_of (unless t why next) ≡ 0 → (t ≡ true) × (number_of next ≡ 0)
passes true why next h e = (refl, e)
passes false why next h e = absurd (h e)

pub accepted : (l : ℕ) (top bottom : List Module) (room : ℕ) → number_of (answer_in l top bottom room) ≡ 0 → Accepted l top bottom room
unfolding answer_in answer_of
accepted l top bottom room h =
    let t = combined (tests_of l top) (tests_of l bottom) in
    let p : ℕ = pin_count top in
    let q : ℕ = pin_count bottom in
    let (e₃, h₁₆) = passes (leb 1 l && leb l 64) (Err (Unsound Length)) _ (λ e. omega arith) h in
    let (e₁₆, h₁₇) = passes t.valid (Err Invalid) _ (λ e. omega arith) h₁₆ in
    let (e₁₇, h₄) = passes t.within (Err Edge) _ (λ e. omega arith) h₁₇ in
    let (e₄, h₆) = passes (leb p 64 && leb q 64) (Err (Unsound Count)) _ (λ e. omega arith) h₄ in
    let (e₆, h₉) = passes t.named (Err (Unsound Net)) _ (λ e. omega arith) h₆ in
    let (e₉, _) = passes (leb (sheet_size p q) room) (Err SheetBuffer) (Ok (sheet_size p q)) (λ e. omega arith) h₉ in
    let (low, high) = (and-eq-true_iff (leb 1 l) (leb l 64)).0 e₃ in
    let (st, sb) = (and-eq-true_iff (are_valid top) (are_valid bottom)).0 e₁₆ in
    let (few, few') = (and-eq-true_iff (leb p 64) (leb q 64)).0 e₄ in
    record {
      answer = rw (e₃, e₁₆, e₁₇, e₄, e₆, e₉);
      columns = (leb-true 1 l low, leb-true l 64 high);
      valid = (
        ((and-eq-true_iff (every is_valid top) (leb (length top) 16)).0 st).0,
        ((and-eq-true_iff (every is_valid bottom) (leb (length bottom) 16)).0 sb).0,
      );
      within = (and-eq-true_iff _ _).0 e₁₇;
      counts = (leb-true p 64 few, leb-true q 64 few');
      named = (and-eq-true_iff _ _).0 e₆;
      size = leb-true (sheet_size p q) room e₉;
    }

-- modules that 16 and 17 leave can be written
pub all_writable :
    (l : ℕ) → l ≤ 64 → (ms : List Module) → every is_valid ms ≡ true → every (is_within l) ms ≡ true → AllWritable ms
all_writable l short [] h e = tt
all_writable l short (m ∷ ms) h e =
    let (one, rest) = (and-eq-true_iff (is_valid m) (every is_valid ms)).0 h in
    let (inside, others) = (and-eq-true_iff (is_within l m) (every (is_within l) ms)).0 e in
    let (some, wide) = (valid_parts m one).width in
    let moved = moved_fits l m.width m.edges m.width some (omega arith) (not-true _ inside) in
    (((wide, lt_of_lt_of_le moved (pow_mono {j = 64} short)), one), all_writable l short ms rest others)
