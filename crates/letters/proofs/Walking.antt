-- Laws of a walk: what it needs is kept from column to column, and each letter leaves the columns of the whole walk as they are.
-- Assumes nothing.
use Rattle.std.proofs.Common.{ℕ, zero, suc, ◌-◌, ◌≤◌, ◌<◌, ◌≡◌, refl, List, Bool, true, false, cond, arith}
use Rattle.letters.specs.declared.Progress.{Progress}
use Rattle.letters.specs.Letters.{has_top_pin, has_bottom_pin, behind, written}
use Rattle.letters.specs.Walking.{walk_columns, AsksStep}

-- the walk goes on with what it needs
pub walks_on : (p q letter : ℕ) (m : Progress) → 0 < m.c → AsksStep p q m → AsksStep p q (behind letter m)
walks_on p q letter m some_left w =
    record {
      c = omega (arith, w.c);
      i = fewer (has_top_pin letter m.i) m.i w.i;
      j = fewer (has_bottom_pin letter m.j) m.j w.j;
      top = λ h. placed (has_top_pin letter m.i) m.i p m.top w.top h;
      bottom = λ h. placed (has_bottom_pin letter m.j) m.j q m.bottom w.bottom h;
    }
  where
    fewer : (t : Bool) (n : ℕ) {k : ℕ} → n ≤ k → cond t (n - 1) n ≤ k
    fewer true n h = omega arith
    fewer false n h = h

    placed :
        (t : Bool) (n k at : ℕ) → (n < k → m.c < at) → cond t (n - 1) n < k → m.c - 1 < cond t m.c at
    placed true n k at h l = omega (arith, some_left)
    placed false n k at h l = omega (arith, h l)

-- one letter of the walk
module _ (choose : Progress → ℕ) (p : ℕ) where
  letter_more :
      (left letter : ℕ) (m m' : Progress) (columns columns' : List ℕ) → 0 < left → letter ≡ choose m → m' ≡ behind letter m
      → columns' ≡ written p letter m columns → walk_columns choose p (left - 1) m' columns' ≡ walk_columns choose p left m columns
  unfolding walk_columns
  letter_more zero letter m m' columns columns' h e em ec = elim h [ ]
  letter_more (suc left) letter m m' columns columns' h e em ec =
      let less : suc left - 1 ≡ left = omega arith in
      rw (em, ec, e, less)

  pub walk_more :
      (letter : ℕ) (m m' : Progress) (columns columns' : List ℕ) → 0 < m.c → letter ≡ choose m → m' ≡ behind letter m
      → columns' ≡ written p letter m columns → walk_columns choose p m'.c m' columns' ≡ walk_columns choose p m.c m columns
  walk_more letter m m' columns columns' h e em ec = rw em (letter_more m.c letter m (behind letter m) columns columns' h e refl ec)

  pub walk_none : (left : ℕ) (m : Progress) (columns : List ℕ) → left ≤ 0 → columns ≡ walk_columns choose p left m columns
  unfolding walk_columns
  walk_none zero m columns h = refl
  walk_none (suc left) m columns h = absurd (omega arith)
