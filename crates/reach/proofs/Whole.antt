-- The whole channel: a word of all pins within a bound is a word that fits with no load above it; the walk writes
-- one, and the first of them.
-- Assumes nothing.
use Rattle.std.proofs.Common.{◌≡◌, ℕ, ◌+◌, ◌≤◌, Bool, true, List, length, sym, refl, ◌∙◌, le_refl, length-append, eq-eqb}
use Rattle.std.proofs.lemmas.Bool.{and_from}
use Rattle.channel.specs.Sheet.{Terminal, Sheet}
use Rattle.channel.specs.Assignment.{side_fits, fits}
use Rattle.channel.specs.Density.{density}
use Rattle.channel.specs.Word.{Letter, has_top, has_bottom, columns_with, columns_of, no_later}
use Rattle.channel.specs.Cut.{count, word_load}
use Rattle.channel.proofs.Assignments.{word_fits, fits_sides}
use Rattle.channel.proofs.Load.{density-load}
use Rattle.channel.proofs.Pins.{length-columns}
use Rattle.channel.proofs.Sides.{side-count}
use Rattle.reach.specs.Reach.{feasible}
use Rattle.reach.specs.Greedy.{next, walk_word}
use Rattle.reach.proofs.Bounds.{feasible-from, feasible_some}
use Rattle.reach.proofs.Standing.{last_of, last_of-below, side-standing}
use Rattle.reach.proofs.Completed.{SideDone, Done, standing-reach}
use Rattle.reach.proofs.Smallest.{walk_done, walk_first}

-- after the last pin of a side there is no next one
next-none : (ts : List Terminal) (u : ℕ) → next ts (length ts) u 0 ≡ true
next-none ts u = rw (eq-eqb (length ts) (length ts) refl)

-- one side of a word that fits
side-whole : (ts : List Terminal) (f : Letter → Bool) (w : List Letter) → side_fits ts (columns_with f w) ≡ true
    → SideDone ts f (length ts) 0 w
side-whole ts f w e =
    let pins : count f w ≡ length ts = side-count f w ts e in
    record { pins = pins; room = le_refl (length ts); stand = sym (side-standing ts f w pins) ∙ e; joined = next-none ts (last_of f w) }

-- and back
side_fits_lem : (ts : List Terminal) (f : Letter → Bool) (w : List Letter) → SideDone ts f (length ts) 0 w
    → side_fits ts (columns_with f w) ≡ true
side_fits_lem ts f w r = side-standing ts f w r.pins ∙ r.stand

-- a word that places all pins of a sheet in its columns, with no load above d
abbrev pub Whole : Sheet → ℕ → List Letter → Type 0
Whole s d w = Done s d s.columns (length s.top) (length s.bottom) 0 0 w

module _ (s : Sheet) (d : ℕ) where
  -- a word that fits is one
  pub fits_whole : (w : List Letter) → length w ≡ s.columns → word_fits s w ≡ true → word_load s w ≤ d → Whole s d w
  fits_whole w size e bound =
      let (t, b) = fits_sides s (columns_with has_top w) (columns_with has_bottom w) e in
      record { size = size; top = side-whole s.top has_top w t; bottom = side-whole s.bottom has_bottom w b; bound = bound }

  -- and back
  pub whole-fits : (w : List Letter) → Whole s d w → word_fits s w ≡ true
  unfolding fits
  whole-fits w r = and_from _ _ (side_fits_lem s.top has_top w r.top) (side_fits_lem s.bottom has_bottom w r.bottom)

  -- its density is its load
  pub whole-density : (w : List Letter) → Whole s d w → density s (columns_of w) ≡ word_load s w
  whole-density w r = density-load s w r.size r.top.pins r.bottom.pins

  -- where there is one, all pins can be placed
  pub whole-feasible : (w : List Letter) → Whole s d w → feasible s d ≡ true
  whole-feasible w r =
      feasible-from s d (last_of has_top w) (last_of has_bottom w) (rw r.size at (last_of-below has_top w))
      (rw r.size at (last_of-below has_bottom w))
      (rw (r.top.pins, r.bottom.pins) at (standing-reach s d w r.top.stand r.bottom.stand r.bound))

  -- where all pins can be placed, the walk writes one
  pub walk-whole : feasible s d ≡ true → Whole s d (walk_word s d)
  unfolding walk_word
  walk-whole f =
      let (u, v, hu, hv, r) = feasible_some s d f in
      walk_done s d s.columns (length s.top) (length s.bottom) 0 0 (le_refl _) (le_refl _)
      (record {
        u = u;
        v = v;
        at_top = hu;
        at_bottom = hv;
        reached = r;
        next_top = next-none s.top u;
        next_bottom = next-none s.bottom v;
      })

  -- and no other comes before it
  pub walk-no_later : (w : List Letter) → Whole s d w → no_later (walk_word s d) w ≡ true
  unfolding walk_word
  walk-no_later w r = walk_first s d s.columns (length s.top) (length s.bottom) 0 0 w r

  -- so it has a letter for each column, a pin for each terminal, and as many columns
  pub walk-pins :
      feasible s d ≡ true
      → (length (walk_word s d) ≡ s.columns)
      × (count has_top (walk_word s d) ≡ length s.top)
      × (count has_bottom (walk_word s d) ≡ length s.bottom)
      × (length (columns_of (walk_word s d)) ≡ length s.top + length s.bottom)
  unfolding columns_of
  walk-pins f =
      let r : Whole s d (walk_word s d) = walk-whole f in (
        r.size,
        r.top.pins,
        r.bottom.pins,
        rw (length-append, length-columns has_top, length-columns has_bottom, r.top.pins, r.bottom.pins),
      )
