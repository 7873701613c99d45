-- Why the loads of a cut, put in, are those of its cell.
-- Assumes nothing.
use Rattle.std.proofs.Common.{ℕ, ◌+◌, ◌≤◌, ◌<◌, ◌≡◌, refl, sym, ◌∙◌, ap, List, Bool, true, false, ◌⊎◌, inl, inr, arith, length, eqb, eqb-true}
use Rattle.std.proofs.lemmas.Bool.{eqb-false}
use Rattle.mark.specs.declared.Mark.{Mark}
use Rattle.arrays.specs.Rules.{pins}
use Rattle.arrays.specs.Loads.{load_rows, load_at, put_loads}
use Rattle.arrays.proofs.Cuts.{length-put_loads, top-put, bottom-put, both-put, load-put_other}
use Rattle.arrays.specs.declared.Loads.{Loads}
use Rattle.load.specs.Cuts.{Cell, CutLoads, Written}

pub write_cell : (mark : Mark) (tops bottoms : List ℕ) (i j : ℕ) → j ≤ pins
    → (old new : List ℕ) (l : Loads) → CutLoads mark tops bottoms i j l
    → load_rows (i + 1) ≤ length old
    → new ≡ put_loads old i j l.top l.bottom l.both
    → Written mark tops bottoms old new (λ x y. (x ≡ i) × (y ≡ j))
write_cell mark tops bottoms i j b old new l is room s =
    rw s (record {
      size = length-put_loads old i j l.top l.bottom l.both;
      cell = λ x y p. rw (p.0, p.1) (record {
        top = top-put old i j l.top l.bottom l.both b room ∙ is.top;
        bottom = bottom-put old i j l.top l.bottom l.both b room ∙ is.bottom;
        both = both-put old i j l.top l.bottom l.both b room ∙ is.both;
      });
      others = λ x y letter g c o. load-put_other old i j l.top l.bottom l.both b x y letter g c (λ p q. o (p, q));
    })

-- some cells put in, and then some others
module _ (mark : Mark) (tops bottoms old mid new : List ℕ) (f g h : ℕ → ℕ → Type 0) (first : Written mark tops bottoms old mid f)
    (then : Written mark tops bottoms mid new g) (parts : (x y : ℕ) → h x y → (g x y) ⊎ (f x y × (g x y → ⊥)))
    (few : (x y : ℕ) → h x y → y ≤ pins) (some_first : (x y : ℕ) → f x y → h x y) (some_then : (x y : ℕ) → g x y → h x y)
  where
    both_written : Written mark tops bottoms old new h
    both_written =
        record {
          size = then.size ∙ first.size;
          cell = λ x y p. cell x y (few x y p) (parts x y p);
          others =
              λ x y letter k c o. then.others x y letter k c (λ q. o (some_then x y q)) ∙ first.others x y letter k c (λ q. o (some_first x y q));
        }
      where
        cell : (x y : ℕ) → y ≤ pins → (g x y) ⊎ (f x y × (g x y → ⊥)) → Cell mark tops bottoms new x y
        cell x y k (inl p) = then.cell x y p
        cell x y k (inr (p, apart)) =
            let before = first.cell x y p in
            let kept : (letter : ℕ) → letter ≤ 2 → load_at new x y letter ≡ load_at mid x y letter = λ letter c. then.others x y letter k c apart in
            record {
              top = kept 0 (omega arith) ∙ before.top;
              bottom = kept 1 (omega arith) ∙ before.bottom;
              both = kept 2 (omega arith) ∙ before.both;
            }

-- the cells of a row up to j, and then the next one
pub cells_more : (mark : Mark) (tops bottoms old mid new : List ℕ) (i j : ℕ) → j + 1 ≤ pins
    → Written mark tops bottoms old mid (λ x y. (x ≡ i) × (y < j + 1))
    → Written mark tops bottoms mid new (λ x y. (x ≡ i) × (y ≡ j + 1))
    → Written mark tops bottoms old new (λ x y. (x ≡ i) × (y < j + 1 + 1))
cells_more mark tops bottoms old mid new i j few cells cell =
    both_written mark tops bottoms old mid new _ _ (λ x y. (x ≡ i) × (y < j + 1 + 1)) cells cell (λ x y p. by-place x y p (eqb y (j + 1)) refl)
    (λ x y p. omega (arith, p.1)) (λ x y p. (p.0, omega (arith, p.1))) (λ x y p. (p.0, omega (arith, p.1)))
  where
    by-place :
        (x y : ℕ) → (x ≡ i) × (y < j + 1 + 1) → (t : Bool) → eqb y (j + 1) ≡ t
        → ((x ≡ i) × (y ≡ j + 1)) ⊎ (((x ≡ i) × (y < j + 1)) × ((x ≡ i) × (y ≡ j + 1) → ⊥))
    by-place x y p true e = inl (p.0, eqb-true y (j + 1) e)
    by-place x y p false e =
        let apart = eqb-false y (j + 1) e in
        inr ((p.0, omega (arith, p.1, apart)), λ q. apart q.1)

-- the cells of the rows up to i, and then those of the next row, put in
pub rows_more : (mark : Mark) (tops bottoms old mid new : List ℕ) (i : ℕ) → length bottoms ≤ pins
    → Written mark tops bottoms old mid (λ x y. (x < i + 1) × (y < length bottoms + 1))
    → Written mark tops bottoms mid new (λ x y. (x ≡ i + 1) × (y < length bottoms + 1))
    → Written mark tops bottoms old new (λ x y. (x < i + 1 + 1) × (y < length bottoms + 1))
rows_more mark tops bottoms old mid new i few rows row =
    both_written mark tops bottoms old mid new _ _ (λ x y. (x < i + 1 + 1) × (y < length bottoms + 1)) rows row
    (λ x y p. by-row x y p (eqb x (i + 1)) refl) (λ x y p. omega (arith, p.1)) (λ x y p. (omega (arith, p.0), p.1))
    (λ x y p. (omega (arith, p.0), p.1))
  where
    by-row :
        (x y : ℕ) → (x < i + 1 + 1) × (y < length bottoms + 1) → (t : Bool) → eqb x (i + 1) ≡ t
        → ((x ≡ i + 1) × (y < length bottoms + 1))
        ⊎ (((x < i + 1) × (y < length bottoms + 1)) × ((x ≡ i + 1) × (y < length bottoms + 1) → ⊥))
    by-row x y p true e = inl (eqb-true x (i + 1) e, p.1)
    by-row x y p false e =
        let apart = eqb-false x (i + 1) e in
        inr ((omega (arith, p.0, apart), p.1), λ q. apart q.0)
