-- Laws of the first refusal that applies, and of the refusals' numbers.
-- Assumes nothing.
use Rattle.std.proofs.Common.{ℕ, ◌≡◌, refl, Bool, true, false, arith, Result, Ok, Err}
use Rattle.refusals.specs.declared.Refusal.{Refusal}
use Rattle.refusals.specs.declared.Refusal.TheVariants.{Short, Mark, Length, Count, Layout, Net, Distance, Beyond}
use Rattle.refusals.specs.declared.ListRefusal.{ListRefusal}
use Rattle.refusals.specs.declared.ListRefusal.TheVariants as list
use Rattle.refusals.specs.Refusals.{number_of, refuse, ◌or_else◌}
use Rattle.refusals.specs.Lists.{list_number}

-- where nothing is refused, neither of two checks refuses
pub or_else_sound : (a b : Result Unit Refusal) → (a or_else b) ≡ Ok tt → (a ≡ Ok tt) × (b ≡ Ok tt)
or_else_sound (Ok tt) b h = (refl, h)
or_else_sound (Err why) b h = let z : ◌≡◌ {A = ℕ} 0 1 = cc in absurd (omega arith)

pub refuse-sound : (t : Bool) (why : Refusal) → refuse t why ≡ Ok tt → t ≡ false
refuse-sound true why h = let z : ◌≡◌ {A = ℕ} 0 1 = cc in absurd (omega arith)
refuse-sound false why h = refl

-- no refusal has the number 0
pub number_some : (why : Refusal) → number_of why ≡ 0 → ⊥
number_some Short e = omega arith
number_some Mark e = omega arith
number_some Length e = omega arith
number_some Count e = omega arith
number_some Layout e = omega arith
number_some Net e = omega arith
number_some Distance e = omega arith
number_some Beyond e = omega arith

pub list_number_some : (why : ListRefusal) → list_number why ≡ 0 → ⊥
list_number_some (list.Sheet why) e = number_some why e
list_number_some list.Count e = omega arith
list_number_some list.Allowed e = omega arith
list_number_some (list.Distance amount) e = omega arith
