-- The loads from the cut: a column's load is the cut right of it, and the nets of its own pins that end there and have come before it.
-- Assumes nothing.
use Rattle.std.proofs.Common.{ℕ, suc, ◌+◌, ◌<◌, ◌≡◌, sym, ap, ap₂, ◌∙◌, List, ◌++◌, Bool, not, cond, ◌&&◌, ◌||◌, arith, length, leb, ltb, eqb, drop-cons}
use Rattle.std.proofs.Math.Bool.{or-false, or_assoc, or_comm}
use Rattle.std.proofs.Math.Path.{fun_ext}
use Rattle.std.proofs.lemmas.Bool.Decides.{nat_tests}
use Rattle.kind.specs.Kinds.{kind_of, leaves_left, leaves_right}
use Rattle.mark.specs.declared.Mark.{Mark}
use Rattle.channel.specs.Density.{straight, crossing, pin_count, weight, weight_of, distinct}
use Rattle.channel.specs.Word.Letter.{top as T, bottom as B, both as TB}
use Rattle.channel.specs.Cut.{has, crosses_cut}
use Rattle.channel.proofs.Columns.{any_append}
use Rattle.places.specs.declared.PinPlaces.{PinPlaces}
use Rattle.places.specs.Places.{comes, goes_on, Numbers}
use Rattle.places.proofs.Numbers.{eqb_sym}
use Rattle.cut.specs.Counts.{cut, ends_here, load_of}
use Rattle.cut.proofs.Weights.{weight_one, weight_parts}
use Rattle.cut.proofs.Steps.{cut_of, comes_more, comes_swap, goes_swap, cut_swap, once-top, once-bottom}

-- Those that cross a column are cut right of it, or stand in it, do not go on, and have come before it or are straight wires that count
crossing_parts : (f l h r : ℕ → Bool) (ns : List ℕ)
    → weight_of (λ (k : ℕ). crossing (f k) (l k) (h k) (r k)) ns
    ≡ weight_of (λ (k : ℕ). (l k || h k) && r k) ns + weight_of (λ (k : ℕ). h k && ((f k || l k) && not (r k))) ns
crossing_parts f l h r ns = weight_parts _ _ _ (λ k. go (f k) (l k) (h k) (r k)) ns
  where
    go : (u x y z : Bool) → cond (crossing u x y z) 1 0 ≡ cond ((x || y) && z) 1 0 + cond (y && ((u || x) && not z)) 1 0
    go u x y z = grind (arith, nat_tests)

-- what the pin's numbers say of its net at the column: the test that the code makes
ends : (f : ℕ → Bool) (own other : List ℕ) (i before behind : ℕ) (pin : PinPlaces) → Numbers f own other i pin → before < 255 → behind < 255
    → ends_here pin before behind ≡ ((f pin.net || comes own other i before pin.net) && not (goes_on own other (suc i) behind pin.net))
ends f own other i before behind pin numbers x y =
    rw (numbers.straight, numbers.opens before x, ← numbers.closes behind y) (ap (λ (b : Bool). (f pin.net || comes own other i before pin.net) && b) (not_less pin.closes behind))
  where
    not_less : (a b : ℕ) → leb a b ≡ not (ltb b a)
    not_less a b = grind (arith, nat_tests)

-- the load of a column with this pin alone
lone : (f : ℕ → Bool) (ns own other : List ℕ) (i j : ℕ) (pin : PinPlaces) → Numbers f own other i pin → i < length own → j < 255
    → pin_count pin.net ns ≡ 1
    → weight_of (λ (k : ℕ). crossing (f k) (comes own other i j k) (eqb pin.net k) (goes_on own other (suc i) j k)) ns
    ≡ cut_of ns own other (suc i) j + cond (ends_here pin j j) 1 0
lone f ns own other i j pin numbers h l once =
    crossing_parts f (comes own other i j) (eqb pin.net) (goes_on own other (suc i) j) ns
    ∙ ap₂ (λ (a b : ℕ). a + b)
    (ap (λ (g : ℕ → Bool). weight_of g ns) (fun_ext (λ k. rw (comes_more own other i j k h, numbers.net))))
    (weight_one (λ (k : ℕ). (f k || comes own other i j k) && not (goes_on own other (suc i) j k)) pin.net ns once
    ∙ rw (ends f own other i j j pin numbers l l))

-- of one with both pins
module _ (f : ℕ → Bool) (ns tops bottoms : List ℕ) (i j : ℕ) (t b : PinPlaces) (top : Numbers f tops bottoms i t) (bottom : Numbers f bottoms tops j b)
    (h : i < length tops) (g : j < length bottoms) (few : i < 254) (less : j < 254) (once : pin_count t.net ns ≡ 1) (also : pin_count b.net ns ≡ 1) where
  pair : weight_of (λ (k : ℕ). crossing (f k) (comes tops bottoms i j k) (eqb t.net k || eqb b.net k) (goes_on tops bottoms (suc i) (suc j) k)) ns
      ≡ cut_of ns tops bottoms (suc i) (suc j) + (cond (ends_here t j (suc j)) 1 0 + cond (not (eqb b.net t.net) && ends_here b i (suc i)) 1 0)
  pair =
      crossing_parts f (comes tops bottoms i j) (λ (k : ℕ). eqb t.net k || eqb b.net k) (goes_on tops bottoms (suc i) (suc j)) ns
      ∙ ap₂ (λ (x y : ℕ). x + y)
      (ap (λ (w : ℕ → Bool). weight_of w ns) (fun_ext (λ k. ap (λ (x : Bool). x && goes_on tops bottoms (suc i) (suc j) k) (sym (came k)))))
      (weight_parts _ _ _ (λ k. go (eqb t.net k) (eqb b.net k) (closing k)) ns
      ∙ ap₂ (λ (x y : ℕ). x + y)
      (weight_one closing t.net ns once ∙ rw (ends f tops bottoms i j (suc j) t top (omega arith) (omega arith)))
      (weight_one (λ (k : ℕ). not (eqb t.net k) && closing k) b.net ns also
      ∙ rw (eqb_sym t.net b.net, ends f bottoms tops j i (suc i) b bottom (omega arith) (omega arith), comes_swap tops bottoms i j b.net, goes_swap tops bottoms (suc i) (suc j) b.net)))
    where
      closing : ℕ → Bool
      closing k = (f k || comes tops bottoms i j k) && not (goes_on tops bottoms (suc i) (suc j) k)

      came : (k : ℕ) → comes tops bottoms (suc i) (suc j) k ≡ (comes tops bottoms i j k || (eqb t.net k || eqb b.net k))
      came k =
          comes_more tops bottoms i (suc j) k h
          ∙ rw (← comes_swap tops bottoms i (suc j) k, comes_more bottoms tops j i k g, comes_swap tops bottoms i j k, ← top.net, ← bottom.net, or_assoc, or_comm (eqb b.net k))

      go : (x y e : Bool) → cond ((x || y) && e) 1 0 ≡ cond (x && e) 1 0 + cond (y && (not x && e)) 1 0
      go x y e = grind (arith, nat_tests)

-- a net crosses by what it has left of the column, in it and right of it
stretches : (f : ℕ → Bool) (k : ℕ) (left here right : List ℕ) (x y z : Bool)
    → (leaves_left (kind_of k) || has k left) ≡ x
    → has k here ≡ y
    → (leaves_right (kind_of k) || has k right) ≡ z
    → crosses_cut f k left here right ≡ crossing (f k) x y z
stretches f k left here right x y z e d g = rw (e, d, g)

-- the loads, from the nets of the two sides alone
module _ (m : Mark) (tops bottoms : List ℕ) where
  pub load_top : (i j : ℕ) (t : PinPlaces) → Numbers (straight m (tops ++ bottoms)) tops bottoms i t → i < length tops → j < 255
      → load_of m tops bottoms T (suc i) j ≡ cut tops bottoms (suc i) j + cond (ends_here t j j) (weight t.net) 0
  unfolding load_of cut
  load_top i j t top h l =
      let f : ℕ → Bool = straight m (tops ++ bottoms) in
      let ns : List ℕ = distinct (tops ++ bottoms) in
      ap (λ (w : ℕ → Bool). weight_of w ns)
      (fun_ext (λ k. stretches f k _ _ _ (comes tops bottoms i j k) (eqb t.net k) (goes_on tops bottoms (suc i) j k) (rw any_append)
      (rw (drop-cons tops i 0 h, or-false, top.net)) (rw any_append)))
      ∙ lone f ns tops bottoms i j t top h l (rw top.net (once-top tops bottoms i h))

  pub load_bottom : (i j : ℕ) (b : PinPlaces) → Numbers (straight m (tops ++ bottoms)) bottoms tops j b → j < length bottoms → i < 255
      → load_of m tops bottoms B i (suc j) ≡ cut tops bottoms i (suc j) + cond (ends_here b i i) (weight b.net) 0
  unfolding load_of cut
  load_bottom i j b bottom h l =
      let f : ℕ → Bool = straight m (tops ++ bottoms) in
      let ns : List ℕ = distinct (tops ++ bottoms) in
      ap (λ (w : ℕ → Bool). weight_of w ns)
      (fun_ext (λ k. stretches f k _ _ _ (comes bottoms tops j i k) (eqb b.net k) (goes_on bottoms tops (suc j) i k)
      (rw (any_append, comes_swap tops bottoms i j k)) (rw (drop-cons bottoms j 0 h, or-false, bottom.net)) (rw (any_append, goes_swap tops bottoms i (suc j) k))))
      ∙ lone f ns bottoms tops j i b bottom h l (rw bottom.net (once-bottom tops bottoms j h))
      ∙ rw (cut_swap ns tops bottoms i (suc j))

  pub load_both : (i j : ℕ) (t b : PinPlaces) → Numbers (straight m (tops ++ bottoms)) tops bottoms i t → Numbers (straight m (tops ++ bottoms)) bottoms tops j b
      → i < length tops → j < length bottoms → i < 254 → j < 254
      → load_of m tops bottoms TB (suc i) (suc j)
      ≡ cut tops bottoms (suc i) (suc j)
      + (cond (ends_here t j (suc j)) (weight t.net) 0 + cond (not (eqb b.net t.net) && ends_here b i (suc i)) (weight b.net) 0)
  unfolding load_of cut
  load_both i j t b top bottom h g few less =
      let f : ℕ → Bool = straight m (tops ++ bottoms) in
      let ns : List ℕ = distinct (tops ++ bottoms) in
      ap (λ (w : ℕ → Bool). weight_of w ns)
      (fun_ext (λ k. stretches f k _ _ _ (comes tops bottoms i j k) (eqb t.net k || eqb b.net k) (goes_on tops bottoms (suc i) (suc j) k)
      (rw any_append) (rw (drop-cons tops i 0 h, drop-cons bottoms j 0 g, or-false, top.net, bottom.net)) (rw any_append)))
      ∙ pair f ns tops bottoms i j t b top bottom h g few less
      (rw top.net (once-top tops bottoms i h)) (rw bottom.net (once-bottom tops bottoms j g))
