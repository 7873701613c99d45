-- What the pins' numbers say of the cuts and the loads, in the steps that the loops take.
-- Assumes nothing.
use Rattle.std.proofs.Common.{ℕ, suc, ◌+◌, ◌-◌, ◌≤◌, ◌<◌, ◌≡◌, refl, List, ◌++◌, not, cond, ◌&&◌, arith, sym, false, length, get_or, leb, ltb, eqb, add-one, ne_eqb}
use Rattle.mark.specs.declared.Mark.{Mark}
use Rattle.channel.specs.Density.{straight, weight}
use Rattle.arrays.specs.declared.Loads.{Loads}
use Rattle.places.specs.declared.PinPlaces.{PinPlaces}
use Rattle.cut.specs.Counts.{cut, ends_here}
use Rattle.cut.proofs.Steps.{cut_most, step_top, step_bottom}
use Rattle.cut.proofs.Loads.{load_top, load_bottom, load_both}
use Rattle.load.specs.Cuts.{CutLoads, Listed}

-- a cut has no top pin more than the first one
past : (i : ℕ) → eqb (i + 1) 0 ≡ false
past i = ne_eqb (i + 1) 0 (λ e. omega arith)

back : (i : ℕ) → i + 1 - 1 ≡ i
back i = omega arith

-- the bounds that `next_cut` asks, and what it gives, are those of the cut with a pin more
module _ {m : Mark} {tops bottoms : List ℕ} {top_pins bottom_pins : List PinPlaces} (listed : Listed m tops bottoms top_pins bottom_pins) where
  pub most : (i j c : ℕ) → c ≡ cut tops bottoms i j → c ≤ 128
  most i j c e = omega (arith, e, cut_most tops bottoms i j listed.few.0 listed.few.1)

  -- with a bottom pin more
  module _ (i j c : ℕ) (d : PinPlaces) (h : i ≤ length tops) (g : j < length bottom_pins) (is : c ≡ cut tops bottoms i j) where
    below : cut tops bottoms i (suc j) + cond (leb (get_or bottom_pins j d).opens i) 1 0 ≡ c + cond (ltb i (get_or bottom_pins j d).closes) 1 0
    below =
        let k : j < length bottoms = omega (arith, listed.bottom.size) in
        rw is
        (step_bottom tops bottoms (straight m (tops ++ bottoms)) i j (get_or bottom_pins j d) (listed.bottom.each j d k) k (omega (arith, listed.few.0)))

    pub room_bottom : (c ≤ 128) × (cond (leb (get_or bottom_pins j d).opens i) 1 0 ≤ c + cond (ltb i (get_or bottom_pins j d).closes) 1 0)
    room_bottom = (most i j c is, omega (arith, below))

    pub next_bottom : (r : ℕ)
        → r + cond (leb (get_or bottom_pins j d).opens i) 1 0 ≡ c + cond (ltb i (get_or bottom_pins j d).closes) 1 0
        → r ≡ cut tops bottoms i (j + 1)
    next_bottom r e = rw (add-one j) (omega (arith, e, below))

  -- with a top pin more, where there is no bottom pin
  module _ (i c : ℕ) (d : PinPlaces) (h : i < length top_pins) (is : c ≡ cut tops bottoms i 0) where
    right : cut tops bottoms (suc i) 0 + cond (leb (get_or top_pins i d).opens 0) 1 0 ≡ c + cond (ltb 0 (get_or top_pins i d).closes) 1 0
    right =
        let k : i < length tops = omega (arith, listed.top.size) in
        rw is (step_top tops bottoms (straight m (tops ++ bottoms)) i 0 (get_or top_pins i d) (listed.top.each i d k) k (omega arith))

    pub room_top : (c ≤ 128) × (cond (leb (get_or top_pins i d).opens 0) 1 0 ≤ c + cond (ltb 0 (get_or top_pins i d).closes) 1 0)
    room_top = (most i 0 c is, omega (arith, right))

    pub next_top : (r : ℕ)
        → r + cond (leb (get_or top_pins i d).opens 0) 1 0 ≡ c + cond (ltb 0 (get_or top_pins i d).closes) 1 0
        → r ≡ cut tops bottoms (i + 1) 0
    next_top r e = rw (add-one i) (omega (arith, e, right))

  -- the loads of the three sorts of cuts
  pub first_loads : (j c b : ℕ) (d : PinPlaces) → j < length bottoms → c ≡ cut tops bottoms 0 (j + 1)
      → let pin : PinPlaces = get_or bottom_pins j d in
      b ≡ c + cond (ends_here pin 0 0) (weight pin.net) 0
      → CutLoads m tops bottoms 0 (j + 1) (record { top = 0; bottom = b; both = 0 })
  first_loads j c b d g is e = record {
    top = refl;
    bottom = rw (past j, e, is, add-one j) (sym (load_bottom m tops bottoms 0 j (get_or bottom_pins j d) (listed.bottom.each j d g) g (omega arith)));
    both = refl;
  }

  pub row_loads : (i c t : ℕ) (d : PinPlaces) → i < length tops → c ≡ cut tops bottoms (i + 1) 0
      → let pin : PinPlaces = get_or top_pins i d in
      t ≡ c + cond (ends_here pin 0 0) (weight pin.net) 0
      → CutLoads m tops bottoms (i + 1) 0 (record { top = t; bottom = 0; both = 0 })
  row_loads i c t d h is e = record {
    top = rw (past i, e, is, add-one i) (sym (load_top m tops bottoms i 0 (get_or top_pins i d) (listed.top.each i d h) h (omega arith)));
    bottom = refl;
    both = rw (past i);
  }

  pub cell_loads : (i j c : ℕ) (l : Loads) (d e : PinPlaces) → i < length tops → j < length bottoms → c ≡ cut tops bottoms (i + 1) (j + 1)
      → let t : PinPlaces = get_or top_pins i d in
      let b : PinPlaces = get_or bottom_pins j e in
      l.top ≡ c + cond (ends_here t (j + 1) (j + 1)) (weight t.net) 0
      → l.bottom ≡ c + cond (ends_here b (i + 1) (i + 1)) (weight b.net) 0
      → l.both
      ≡ c
      + (cond (ends_here t (j + 1 - 1) (j + 1)) (weight t.net) 0
      + cond (not (eqb b.net t.net) && ends_here b (i + 1 - 1) (i + 1)) (weight b.net) 0)
      → CutLoads m tops bottoms (i + 1) (j + 1) l
  cell_loads i j c l d e h g is x y z =
      let t : PinPlaces = get_or top_pins i d in
      let b : PinPlaces = get_or bottom_pins j e in
      let few : i < 254 = omega (arith, listed.few.0) in
      let less : j < 254 = omega (arith, listed.few.1) in
      record {
        top = rw (past i, x, is, add-one i, add-one j) (sym (load_top m tops bottoms i (suc j) t (listed.top.each i d h) h (omega arith)));
        bottom = rw (past j, y, is, add-one i, add-one j) (sym (load_bottom m tops bottoms (suc i) j b (listed.bottom.each j e g) g (omega arith)));
        both =
            rw (past i, past j, z, back i, back j, is, add-one i, add-one j)
            (sym (load_both m tops bottoms i j t b (listed.top.each i d h) (listed.bottom.each j e g) h g few less));
      }
