-- Laws of a side's list: the modules from a place on are the one there and those from its end on, and the list's end ends them.
-- Assumes nothing.
use Rattle.std.proofs.Common.{◌≡◌, ℕ, zero, suc, ◌+◌, ◌-◌, ◌*◌, ◌<◌, ◌≤◌, Bool, true, false, cond, leb, List, [], ◌∷◌, length, refl, ap, arith, le-leb, leb-false, leb-true}
use Rattle.std.proofs.lemmas.Bool.{lt-leb}
use Rattle.modules.specs.Bytes.{Head}
use Rattle.modules.specs.Modules.{Module, pin_count}
use Rattle.modules.specs.Bytes.{pin_size, end_at, head_at, cut_head, head_in, pins_from, module_of, modules_from, modules_at, modules_in}

pub length-pins : (b : List ℕ) (i n : ℕ) → length (pins_from b i n) ≡ n
length-pins b i zero = refl
length-pins b i (suc n) = ap suc (length-pins b (i + pin_size) n)

-- the head at a place, where the module ends in the list and where it runs past its end
pub head_there : (b : List ℕ) (i : ℕ) → end_at b i ≤ length b → head_at b i ≡ head_in b i
unfolding head_in
head_there b i h = rw (le-leb (end_at b i) (length b) h)

pub head_cut : (b : List ℕ) (i : ℕ) → length b < end_at b i → cut_head (length b) ≡ head_in b i
unfolding head_in
head_cut b i h = rw (lt-leb (end_at b i) (length b) h)

-- where the module at a place in the list lies: its pins stand at or behind the place, are in the list and end the module, and the next
-- place is behind it
pub record Lies (b : List ℕ) (i : ℕ) (h : Head) : Type 0 where
  pub start : i ≤ h.start
  pub pins : h.start + pin_size * h.count ≡ h.end
  pub inside : h.end ≤ length b
  pub behind : i < h.end

pub lies : (b : List ℕ) (i : ℕ) → i < length b → Lies b i (head_in b i)
unfolding head_in
lies b i h = by_end (leb (end_at b i) (length b)) refl
  where
    by_end : (t : Bool) → leb (end_at b i) (length b) ≡ t → Lies b i (head_in b i)
    by_end true e =
        record { start = rw e (omega arith); pins = rw e; inside = rw e (leb-true _ _ e); behind = rw e (omega arith) }
    by_end false e =
        record { start = rw e (omega arith); pins = rw e (omega arith); inside = rw e (omega arith); behind = rw e h }

-- as many steps as bytes find every module: more find nothing more
enough : (b : List ℕ) (m n i : ℕ) → length b ≤ i + m → length b ≤ i + n → modules_from m b i ≡ modules_from n b i
enough b zero zero i h g = refl
enough b zero (suc n) i h g = rw (le-leb (length b) i (omega arith))
enough b (suc m) zero i h g = rw (le-leb (length b) i (omega arith))
enough b (suc m) (suc n) i h g = by_place (λ j f g. enough b m n j f g) (leb (length b) i) refl
  where
    by_place :
        ((j : ℕ) → length b ≤ j + m → length b ≤ j + n → modules_from m b j ≡ modules_from n b j) → (t : Bool) → leb (length b) i ≡ t
        → modules_from (suc m) b i ≡ modules_from (suc n) b i
    by_place next true e = rw e
    by_place next false e =
        let here = lies b i (leb-false (length b) i e) in
        ap (λ (ms : List Module). cond (leb (length b) i) [] (module_of b (head_in b i) ∷ ms))
        (next (head_in b i).end (omega (arith, here.behind)) (omega (arith, here.behind)))

pub modules_end : (b : List ℕ) (i : ℕ) → length b ≤ i → modules_at b i ≡ []
unfolding modules_at
modules_end b i h = let none : length b - i ≡ 0 = omega arith in rw none

pub modules-more : (b : List ℕ) (i : ℕ) → i < length b → modules_at b i ≡ module_of b (head_in b i) ∷ modules_at b (head_in b i).end
unfolding modules_at
modules-more b i h =
    let some : length b - i ≡ suc (length b - suc i) = omega arith in
    let behind = (lies b i h).behind in
    rw (some, lt-leb (length b) i h)
    (ap (λ (ms : List Module). module_of b (head_in b i) ∷ ms)
    (enough b (length b - suc i) (length b - (head_in b i).end) (head_in b i).end (omega arith) (omega arith)))

-- a module takes more bytes than it has pins, so that a side has at most as many of either as bytes
abbrev Few : List ℕ → ℕ → List Module → Type 0
Few b i ms = (pin_count ms + i ≤ length b) × (length ms + i ≤ length b)

few_from : (b : List ℕ) (n i : ℕ) → i ≤ length b → Few b i (modules_from n b i)
few_from b zero i h = (omega (arith, h), omega (arith, h))
few_from b (suc n) i h = by_place (λ j g. few_from b n j g) (leb (length b) i) refl
  where
    by_place :
        ((j : ℕ) → j ≤ length b → Few b j (modules_from n b j)) → (t : Bool) → leb (length b) i ≡ t → Few b i (modules_from (suc n) b i)
    by_place next true e = rw e (omega (arith, h), omega (arith, h))
    by_place next false e =
        let here = lies b i (leb-false (length b) i e) in
        let (pins, count) = next (head_in b i).end here.inside in
        let size = length-pins b (head_in b i).start (head_in b i).count in
        rw e (omega (arith, pins, size, here.start, here.pins), omega (arith, count, here.behind))

pub few_modules : (b : List ℕ) → (pin_count (modules_in b) ≤ length b) × (length (modules_in b) ≤ length b)
unfolding modules_at
few_modules b = let (pins, count) = few_from b (length b - 0) 0 (omega arith) in (omega (arith, pins), omega (arith, count))
