-- Laws of a list that is cut: what stands behind a place stands in the list that begins there.
-- Assumes nothing.
use Rattle.std.proofs.Common.{◌≡◌, ℕ, zero, suc, ◌+◌, ◌-◌, ◌*◌, ◌/◌, ◌<◌, ◌≤◌, Bool, true, false, leb, List, [], ◌∷◌, length, get_or, take, drop, refl, sym, ap, ◌∙◌, ap₂, add-zero, zero-add, add_assoc, arith, le-leb, leb-false, leb-true, length-drop}
use Rattle.std.proofs.lemmas.Bool.{lt-leb}
use Rattle.std.specs.List.{IsSplitAt}
use Rattle.std.proofs.lemmas.List.{get_or-take, get_or-drop, drop-drop, drop_all}
use Rattle.little.specs.Little.{little}
use Rattle.little.proofs.Laws.{same-bytes}
use Rattle.modules.specs.declared.Pin.{Pin}
use Rattle.modules.specs.Modules.{Module}
use Rattle.modules.specs.Bytes.{Head, head_size, pin_size, end_at, head_in, pin_at, pins_from, module_of, modules_from, modules_at, modules_in}
use Rattle.modules.proofs.Lists.{head_there, head_cut, lies, modules-more}

-- n bytes of one list from a place on are those of another
abbrev SameFrom : ℕ → List ℕ → ℕ → List ℕ → ℕ → Type 0
SameFrom n a i b k = (j : ℕ) → j < n → get_or a (i + j) 0 ≡ get_or b (k + j) 0

module _ (a b : List ℕ) where
  -- so are some of them, j bytes on
  past : (i k j m : ℕ) {n : ℕ} → j + m ≤ n → SameFrom n a i b k → SameFrom m a (i + j) b (k + j)
  past i k j m h same x l = rw (add_assoc i j x, add_assoc k j x) (same (j + x) (omega (arith, l)))

  same_pin : (i k : ℕ) → SameFrom pin_size a i b k → pin_at a i ≡ pin_at b k
  unfolding pin_at
  same_pin i k same =
      ap₂ (λ (x y : ℕ). pin x y) (rw (add-zero i, add-zero k) at (same 0 (omega arith)))
      (same-bytes 2 a b (i + 1) (k + 1) (past i k 1 2 (omega arith) same))
    where
      pin : ℕ → ℕ → Pin
      pin x y = record { offset = x; net = y }

  same_pins : (n i k : ℕ) → SameFrom (pin_size * n) a i b k → pins_from a i n ≡ pins_from b k n
  same_pins zero i k same = refl
  same_pins (suc n) i k same =
      ap₂ (λ (p : Pin) (ps : List Pin). p ∷ ps) (same_pin i k (λ j l. same j (omega (arith, l))))
      (same_pins n (i + pin_size) (k + pin_size) (past i k pin_size (pin_size * n) (omega arith) same))

-- a byte of a list that is cut in front, and those of a part that is cut out
behind : (b : List ℕ) (i k m : ℕ) → m ≡ i + k → get_or b m 0 ≡ get_or (drop i b) k 0
behind b i k m e = ap (λ (x : ℕ). get_or b x 0) e ∙ sym (get_or-drop i b k 0)

within : (b : List ℕ) (n i : ℕ) → SameFrom n (take n (drop i b)) 0 b i
within b n i j h = rw (zero-add j) (get_or-take n (drop i b) j 0 h ∙ get_or-drop i b j 0)

-- n pins cut out of a list
pins_cut : (b : List ℕ) (n i : ℕ) → pins_from (take (pin_size * n) (drop i b)) 0 n ≡ pins_from b i n
pins_cut b n i = same_pins (take (pin_size * n) (drop i b)) b n 0 i (within b (pin_size * n) i)

-- the first of some pins, and the others
pub pins_next :
    (b : List ℕ) → pin_size ≤ length b
    → pins_from b 0 (length b / pin_size) ≡ pin_at (take pin_size b) 0 ∷ pins_from (drop pin_size b) 0 (length (drop pin_size b) / pin_size)
pins_next b h =
    rw (some, length-drop pin_size b)
    (ap₂ (λ (p : Pin) (ps : List Pin). p ∷ ps) (same_pin b (take pin_size b) 0 0 (λ j l. sym (within b pin_size 0 j l)))
    (same_pins b (drop pin_size b) ((length b - pin_size) / pin_size) pin_size 0 (λ j l. behind b pin_size (0 + j) (pin_size + j) (omega arith))))
  where
    some : length b / pin_size ≡ suc ((length b - pin_size) / pin_size)
    some = omega arith

abbrev head : ℕ → ℕ → ℕ → ℕ → ℕ → Head
head w e c s n = record { width = w; edges = e; count = c; start = s; end = n }

same_heads :
    {w w' e e' c c' s s' n n' : ℕ} → w ≡ w' → e ≡ e' → c ≡ c' → s ≡ s' → n ≡ n' → head w e c s n ≡ head w' e' c' s' n'
same_heads f g h k l = rw (f, g, h, k, l)

-- what stands in a list from a place on is what the list says that begins there
module _ (b : List ℕ) (i : ℕ) (inside : i ≤ length b) where
  abbrev rest : List ℕ
  rest = drop i b

  size : length b ≡ i + length rest
  size = omega (arith, length-drop i b)

  abbrev moved : Head → Head
  moved h = record { width = h.width; edges = h.edges; count = h.count; start = i + h.start; end = i + h.end }

  head_behind : (k : ℕ) → head_in b (i + k) ≡ moved (head_in rest k)
  unfolding head_in
  head_behind k = by_end (leb (end_at rest k) (length rest)) refl
    where
      width : get_or b (i + k) 0 ≡ get_or rest k 0
      width = behind b i k (i + k) refl

      count : get_or b (i + k + 1) 0 ≡ get_or rest (k + 1) 0
      count = behind b i (k + 1) (i + k + 1) (omega arith)

      edges : little 8 b (i + k + 2) ≡ little 8 rest (k + 2)
      edges = same-bytes 8 b rest (i + k + 2) (k + 2) (λ j l. behind b i (k + 2 + j) (i + k + 2 + j) (omega arith))

      by_end : (t : Bool) → leb (end_at rest k) (length rest) ≡ t → head_in b (i + k) ≡ moved (head_in rest k)
      by_end true e =
          let there = leb-true (end_at rest k) (length rest) e in
          rw (e, le-leb (end_at b (i + k)) (length b) (omega (arith, there, count, size)))
          (same_heads width edges count (omega arith) (omega (arith, count)))
      by_end false e =
          let past = leb-false (end_at rest k) (length rest) e in
          rw (e, lt-leb (end_at b (i + k)) (length b) (omega (arith, past, count, size)), size) cc

  module_behind : (k : ℕ) → module_of b (head_in b (i + k)) ≡ module_of rest (head_in rest k)
  module_behind k =
      rw (head_behind k) (ap (of_head (head_in rest k))
      (same_pins b rest (head_in rest k).count (i + (head_in rest k).start) (head_in rest k).start
      (λ j l. behind b i ((head_in rest k).start + j) (i + (head_in rest k).start + j) (omega arith))))
    where
      of_head : Head → List Pin → Module
      of_head h ps = record { width = h.width; edges = h.edges; pins = ps }

  modules_behind : (n k : ℕ) → modules_from n b (i + k) ≡ modules_from n rest k
  modules_behind zero k = refl
  modules_behind (suc n) k = by_place (modules_behind n (head_in rest k).end) (leb (length rest) k) refl
    where
      by_place :
          modules_from n b (i + (head_in rest k).end) ≡ modules_from n rest (head_in rest k).end → (t : Bool) → leb (length rest) k ≡ t
          → modules_from (suc n) b (i + k) ≡ modules_from (suc n) rest k
      by_place next true e =
          let none = leb-true (length rest) k e in
          rw (e, le-leb (length b) (i + k) (omega (arith, none, size)))
      by_place next false e =
          let some = leb-false (length rest) k e in
          let end = ap (λ (h : Head). h.end) (head_behind k) in
          rw (e, lt-leb (length b) (i + k) (omega (arith, some, size)))
          (ap₂ (λ (m : Module) (ms : List Module). m ∷ ms) (module_behind k) (ap (modules_from n b) end ∙ next))

  modules_cut : modules_at b i ≡ modules_in rest
  unfolding modules_at
  modules_cut =
      ap₂ (λ (n k : ℕ). modules_from n b k) (omega (arith, size)) (sym (add-zero i)) ∙ modules_behind (length rest - 0) 0

-- the modules of a list are the first and those behind it
pub modules_next : (b : List ℕ) → 0 < length b → modules_in b ≡ module_of b (head_in b 0) ∷ modules_in (drop (head_in b 0).end b)
modules_next b some =
    modules-more b 0 some
    ∙ ap (λ (ms : List Module). module_of b (head_in b 0) ∷ ms) (modules_cut b (head_in b 0).end (lies b 0 some).inside)

abbrev as_module : ℕ → ℕ → List Pin → Module
as_module width edges pins = record { width = width; edges = edges; pins = pins }

same_module : {w w' e e' : ℕ} {ps qs : List Pin} → w ≡ w' → e ≡ e' → ps ≡ qs → as_module w e ps ≡ as_module w' e' qs
same_module f g h = rw (f, g, h)

-- the first module, of the bytes of its head and of its pins, and the bytes behind it, if it ends in the list
pub first_there :
    (b : List ℕ) {head rest pins behind : List ℕ} {edges : ℕ} → head_size ≤ length b → head ≡ take head_size b → rest ≡ drop head_size b
    → IsSplitAt rest (pin_size * get_or head 1 0) pins behind → edges ≡ little 8 head 2
    → (as_module (get_or head 0 0) edges (pins_from pins 0 (length pins / pin_size)) ≡ module_of b (head_in b 0))
    × (behind ≡ drop (head_in b 0).end b)
first_there b {head} {rest} {pins} {behind} {edges} long e f (enough, front, back, many, _) g =
    rw (sym (head_there b 0 ends)) (
      same_module (byte 0 (omega arith)) (g ∙ same-bytes 8 head b 2 2 (λ j l. byte (2 + j) (omega (arith, l)))) found,
      back ∙ ap₂ (λ (n : ℕ) (r : List ℕ). drop (pin_size * n) r) count f ∙ drop-drop (pin_size * get_or b 1 0) head_size b,
    )
  where
    byte : (j : ℕ) → j < head_size → get_or head j 0 ≡ get_or b j 0
    byte j h = ap (λ (r : List ℕ). get_or r j 0) e ∙ get_or-take head_size b j 0 h

    count : get_or head 1 0 ≡ get_or b 1 0
    count = byte 1 (omega arith)

    ends : end_at b 0 ≤ length b
    ends = omega (arith, enough, count, ap (λ (r : List ℕ). length r) f, length-drop head_size b)

    found : pins_from pins 0 (length pins / pin_size) ≡ pins_from b head_size (get_or b 1 0)
    found =
        ap₂ (λ (ps : List ℕ) (n : ℕ). pins_from ps 0 n) (front ∙ ap₂ (λ (n : ℕ) (r : List ℕ). take (pin_size * n) r) count f) (omega (arith, many, count))
        ∙ pins_cut b (get_or b 1 0) head_size

-- if it does not
pub first_cut : (b : List ℕ) → length b < end_at b 0 → (as_module 0 0 [] ≡ module_of b (head_in b 0)) × ([] ≡ drop (head_in b 0).end b)
first_cut b h = rw (sym (head_cut b 0 h)) (refl, sym (drop_all (length b) b (omega arith)))
