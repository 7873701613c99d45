-- Laws of the tests of modules: two that agree field by field, and the tests of no module more.
-- Assumes nothing.
use Rattle.std.proofs.Common.{◌≡◌, ℕ, Bool, [], add-zero}
use Rattle.std.proofs.Math.Bool.{and-true}
use Rattle.module_check.specs.declared.Tests.{Tests}
use Rattle.module_check.specs.Tests.{all_tests, combined}

abbrev pub tests : ℕ → Bool → Bool → Bool → Tests
tests n valid within named = record { pins = n; valid = valid; within = within; named = named }

pub same_tests :
    {n n' : ℕ} {a a' b b' c c' : Bool} → n ≡ n' → a ≡ a' → b ≡ b' → c ≡ c' → tests n a b c ≡ tests n' a' b' c'
same_tests e f g h = rw (e, f, g, h)

pub all-combined : (l : ℕ) (t : Tests) → combined t (all_tests l []) ≡ t
all-combined l t = same_tests (add-zero t.pins) (and-true t.valid) (and-true t.within) (and-true t.named)
