-- Sheet A of docs/FORMAT.md under either mark, its least columns and its walk by order computed from the definitions.
-- Assumes nothing.
use Rattle.std.proofs.Common.{◌≡◌, ℕ, zero, suc, ◌+◌, ◌<◌, ◌≤◌, List, [], ◌∷◌, get_or, true, refl, ap, ◌∙◌, arith, le-leb}
use Rattle.std.proofs.lemmas.Bool.{and_from}
use Rattle.kind.specs.Kinds.{kind_of}
use Rattle.mark.specs.declared.Mark.{Mark}
use Rattle.mark.specs.declared.Mark.TheVariants.{Cp, Cq}
use Rattle.channel.specs.Sheet.{Terminal, Sheet, Sound, sheet_with}
use Rattle.channel.specs.Assignment.{in_range}
use Rattle.channel.specs.Density.{nets_of}
use Rattle.channel.specs.Word.{columns_of}
use Rattle.channel.specs.Cut.{load}
use Rattle.channel.specs.Best.{best}
use Rattle.channel.specs.Best.Found.{found}
use Rattle.channel.proofs.Sets.{allowed-column}
use Rattle.reach.specs.Reach.{terminal_number}
use Rattle.least_column.specs.LeastColumn.{allowed_to, next_column, with_letter, least_bottoms, least_tops, least_column, last_column, by_order, order_choice, order_walk_from, order_walk, NoneBinds}
use Rattle.least_column.proofs.Order.{order_best}

-- a side of two terminals, with the sets 1 to 3 and a distance from 1
abbrev side : ℕ → ℕ → List Terminal
side m n =
    record { net = m; least = 0; greatest = 0; allowed = 7 } ∷ record { net = n; least = 1; greatest = 255; allowed = 7 } ∷ []

-- sheet A
abbrev sheet_a : Mark → Sheet
sheet_a m = sheet_with m 3 (side 1 2) (side 2 1)

sound_a : (m : Mark) → Sound (sheet_a m)
sound_a m =
    record {
      columns = (omega arith, omega arith);
      counts = (omega arith, omega arith);
      top = (record { net = refl; distances = refl; allowed = refl }, (record { net = refl; distances = refl; allowed = refl }, tt));
      bottom = (record { net = refl; distances = refl; allowed = refl }, (record { net = refl; distances = refl; allowed = refl }, tt));
    }

-- no distance binds: the columns are 1 to 3
side_free : (m n : ℕ) → NoneBinds (side m n)
side_free m n = record { ranges = ranges }
  where
    ranges :
        (i a b : ℕ) → a < b → allowed_to (side m n) (suc i) a ≡ true → allowed_to (side m n) (suc (suc i)) b ≡ true
        → in_range (terminal_number (side m n) (suc (suc i))).least (terminal_number (side m n) (suc (suc i))).greatest a b ≡ true
    ranges zero a b h e f =
        let (low, high) = allowed-column 3 7 b f refl in
        and_from _ _ (le-leb (a + 1) b (omega arith)) (le-leb b (a + 255) (omega arith))
    ranges (suc i) a b h e f = let (low, high) = allowed-column 0 0 b f refl in absurd (omega arith)

-- the least column of all pins under the bounds 0, 1 and 2; 4 is none
abbrev last_a : Mark → List ℕ
last_a m = last_column (sheet_a m) 0 ∷ last_column (sheet_a m) 1 ∷ last_column (sheet_a m) 2 ∷ []

pub last_a-columns : (last_a Cp ≡ 4 ∷ 3 ∷ 2 ∷ []) × (last_a Cq ≡ 4 ∷ 4 ∷ 2 ∷ [])
unfolding next_column with_letter least_bottoms least_tops least_column load kind_of nets_of
last_a-columns = (refl, refl)

-- the walk by order, under the least bound
pub walk_a-columns :
    (columns_of (order_walk (sheet_a Cp) 1) ≡ 2 ∷ 3 ∷ 1 ∷ 2 ∷ []) × (columns_of (order_walk (sheet_a Cq) 2) ≡ 1 ∷ 2 ∷ 1 ∷ 2 ∷ [])
unfolding next_column with_letter least_bottoms least_tops least_column load kind_of nets_of by_order order_choice order_walk_from order_walk columns_of
walk_a-columns = (refl, refl)

-- so these are its best assignments, as `best` computed
pub best_a-order : (best (sheet_a Cp) ≡ found 1 (2 ∷ 3 ∷ 1 ∷ 2 ∷ [])) × (best (sheet_a Cq) ≡ found 2 (1 ∷ 2 ∷ 1 ∷ 2 ∷ []))
best_a-order = (
  best_by Cp 1 (omega (arith, column_at 1 last_a-columns.0)) under_cp ∙ ap (found 1) walk_a-columns.0,
  best_by Cq 2 (omega (arith, column_at 2 last_a-columns.1)) under_cq ∙ ap (found 2) walk_a-columns.1,
)
  where
    best_by :
        (m : Mark) (d : ℕ) → last_column (sheet_a m) d ≤ 3 → ((e : ℕ) → e < d → 3 < last_column (sheet_a m) e)
        → best (sheet_a m) ≡ found d (columns_of (order_walk (sheet_a m) d))
    best_by m = order_best (sheet_a m) (sound_a m) (side_free 1 2) (side_free 2 1)

    column_at : {xs ys : List ℕ} (d : ℕ) → xs ≡ ys → get_or xs d 0 ≡ get_or ys d 0
    column_at d e = ap (λ (zs : List ℕ). get_or zs d 0) e

    under_cp : (e : ℕ) → e < 1 → 3 < last_column (sheet_a Cp) e
    under_cp zero h = omega (arith, column_at 0 last_a-columns.0)
    under_cp (suc e) h = absurd (omega arith)

    under_cq : (e : ℕ) → e < 2 → 3 < last_column (sheet_a Cq) e
    under_cq zero h = omega (arith, column_at 0 last_a-columns.1)
    under_cq (suc zero) h = omega (arith, column_at 1 last_a-columns.1)
    under_cq (suc (suc e)) h = absurd (omega arith)
