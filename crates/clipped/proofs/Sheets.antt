-- The clipped sheet has the same loads, assignments, densities and best assignment, and there is one exactly when both sides are open.
-- Assumes nothing.
use Rattle.std.proofs.Common.{ℕ, ◌≤◌, ◌≡◌, refl, sym, ◌∙◌, ap, ap₂, List, [], ◌∷◌, ◌++◌, length, take, drop, take_at, drop_at, arith, Bool, true, false, ◌&&◌, true≢false, ◌⊎◌, inl, inr}
use Rattle.std.proofs.Math.Bool.{and-false, and-eq-true_iff}
use Rattle.std.proofs.Math.ListN.{length-map}
use Rattle.std.proofs.lemmas.Bool.{and_from, and_cases, true_from_ne_false}
use Rattle.std.proofs.lemmas.List.{map-append}
use Rattle.channel.specs.Sheet.{Terminal, Sheet, sheet_with, Sound, nets, all_nets}
use Rattle.channel.specs.Assignment.{side_fits, fits, top_columns, bottom_columns, is_assignment}
use Rattle.channel.specs.Density.{pins, Pin, straight, crosses, distinct, nets_of, weight_of, maximum_to, column_density, density}
use Rattle.channel.specs.Word.{Letter, has_top, has_bottom, columns_with, columns_of, words}
use Rattle.channel.specs.Cut.{load}
use Rattle.channel.specs.Best.{Found, better, best_of, best}
use Rattle.channel.proofs.Assignments.{side-length}
use Rattle.channel.proofs.Best.{none_exactly}
use Rattle.reach.proofs.Least.{search-none}
use Rattle.clip.specs.Clip.{Clipped, side_open}
use Rattle.rules.specs.Sides.{SideRules, SameRule}
use Rattle.rules.proofs.Reading.{rules_same}
use Rattle.clipped.specs.Clipped.{ClippedSheet, clipped_terminals, clipped_sheet}
use Rattle.clipped.proofs.Terminals.{length-with_words, with_words_same}
use Rattle.clipped.proofs.Side.{ClippedSide, side_clipped}

-- pins from the nets of their terminals
pins_of : List ℕ → List ℕ → List Pin
pins_of [] cs = []
pins_of (n ∷ ns) [] = []
pins_of (n ∷ ns) (c ∷ cs) = record { net = n; column = c } ∷ pins_of ns cs

pins-nets : (ts : List Terminal) (cs : List ℕ) → pins ts cs ≡ pins_of (nets ts) cs
unfolding pins_of
pins-nets [] cs = refl
pins-nets (t ∷ ts) [] = refl
pins-nets (t ∷ ts) (c ∷ cs) = ap (λ (ps : List Pin). record { net = t.net; column = c } ∷ ps) (pins-nets ts cs)

as_many : (ts us : List Terminal) → nets ts ≡ nets us → length ts ≡ length us
as_many ts us e = simp length-map at (ap length e)

-- a sheet with other terminals
abbrev other : Sheet → List Terminal → List Terminal → Sheet
other s ts us = sheet_with s.mark s.columns ts us

-- terminals of the same nets, which the same columns fit
module _ (s : Sheet) (ts us : List Terminal) (top_nets : nets s.top ≡ nets ts) (bottom_nets : nets s.bottom ≡ nets us)
    (top_fits : (cs : List ℕ) → side_fits s.top cs ≡ side_fits ts cs) (bottom_fits : (cs : List ℕ) → side_fits s.bottom cs ≡ side_fits us cs) where
  same_nets : all_nets s ≡ all_nets (other s ts us)
  same_nets = simp (map-append, top_nets, bottom_nets)

  same_load : (a : Letter) (i j : ℕ) → load s a i j ≡ load (other s ts us) a i j
  unfolding load nets_of
  same_load a i j = rw (same_nets, top_nets, bottom_nets)

  -- a density by the nets and the pins alone
  density_of : List ℕ → List Pin → ℕ
  density_of ns ps = maximum_to s.columns (λ (c : ℕ). weight_of (λ (n : ℕ). crosses (straight s.mark ns) ps n c) (distinct ns))

  same_density : (cs : List ℕ) → density s cs ≡ density (other s ts us) cs
  unfolding density column_density nets_of density_of
  same_density cs =
      ap₂ density_of same_nets
      (pins-nets (s.top ++ s.bottom) cs ∙ ap (λ (ns : List ℕ). pins_of ns cs) same_nets ∙ sym (pins-nets (ts ++ us) cs))

  same_fits : (tops bottoms : List ℕ) → fits s tops bottoms ≡ fits (other s ts us) tops bottoms
  unfolding fits
  same_fits tops bottoms = ap₂ (λ (a b : Bool). a && b) (top_fits tops) (bottom_fits bottoms)

  same_assignment : (cs : List ℕ) → is_assignment s cs ≡ is_assignment (other s ts us) cs
  unfolding is_assignment top_columns bottom_columns
  same_assignment cs =
      same_fits (take (length s.top) cs) (drop (length s.top) cs)
      ∙ ap (λ (n : ℕ). fits (other s ts us) (take n cs) (drop n cs)) (as_many s.top ts top_nets)

  same_best_of : (ws : List (List Letter)) → best_of s ws ≡ best_of (other s ts us) ws
  unfolding best_of
  same_best_of [] = refl
  same_best_of (w ∷ ws) =
      ap (λ (x : Bool). elim x [ true ↦ better (density s (columns_of w)) (columns_of w) (best_of s ws) | false ↦ best_of s ws ])
      (same_fits (columns_with has_top w) (columns_with has_bottom w))
      ∙ ap₂
      (λ (d : ℕ) (f : Found).
      elim (fits (other s ts us) (columns_with has_top w) (columns_with has_bottom w)) [ true ↦ better d (columns_of w) f | false ↦ f ])
      (same_density (columns_of w)) (same_best_of ws)

  same_best : best s ≡ best (other s ts us)
  unfolding best
  same_best = same_best_of (words s.columns)

-- columns that fit both sides make an assignment
sides_assigned :
    (s : Sheet) (ts bs : List ℕ) → side_fits s.top ts ≡ true → side_fits s.bottom bs ≡ true → is_assignment s (ts ++ bs) ≡ true
unfolding is_assignment fits top_columns bottom_columns
sides_assigned s ts bs e f =
    let size : length ts ≡ length s.top = side-length s.top ts e in
    rw (take_at ts bs (length s.top) size, drop_at ts bs (length s.top) size) (and_from _ _ e f)

-- where no columns fit one of the sides, none is an assignment
top_unassigned : (s : Sheet) → ((cs : List ℕ) → side_fits s.top cs ≡ false) → (cs : List ℕ) → is_assignment s cs ≡ false
unfolding is_assignment fits
top_unassigned s unfit cs = rw (unfit (top_columns s cs))

bottom_unassigned : (s : Sheet) → ((cs : List ℕ) → side_fits s.bottom cs ≡ false) → (cs : List ℕ) → is_assignment s cs ≡ false
unfolding is_assignment fits
bottom_unassigned s unfit cs = rw (unfit (bottom_columns s cs)) (and-false (side_fits s.top (top_columns s cs)))

-- from what it does of each side
module _ (s : Sheet) (sound : Sound s) (ts us : List Terminal) (rules : List ℕ) (a b : Bool) (x : ClippedSide s.columns 0 s.top ts rules a)
    (y : ClippedSide s.columns 1 s.bottom us rules b) where
  sounds : Sound (other s ts us)
  sounds = record {
    columns = sound.columns;
    counts = (rw (as_many s.top ts x.same_nets) at sound.counts.0, rw (as_many s.bottom us y.same_nets) at sound.counts.1);
    top = x.sound;
    bottom = y.sound;
  }

  bests : best s ≡ best (other s ts us)
  bests = same_best s ts us x.same_nets y.same_nets x.fits y.fits

  assigned : (a && b) ≡ true → (cs : List ℕ) × (is_assignment s cs ≡ true)
  assigned e =
      let (f, g) = (and-eq-true_iff a b).0 e in
      let (cs, p) = x.opened f in
      let (ds, q) = y.opened g in
      (cs ++ ds, sides_assigned s cs ds p q)

  unassigned : (a && b) ≡ false → (cs : List ℕ) → is_assignment s cs ≡ false
  unassigned e = by-side (and_cases a b e)
    where
      by-side : (a ≡ false) ⊎ (b ≡ false) → (cs : List ℕ) → is_assignment s cs ≡ false
      by-side (inl f) = top_unassigned s (x.closed f)
      by-side (inr f) = bottom_unassigned s (y.closed f)

  sides_clipped : ClippedSheet s (other s ts us) rules (a && b)
  sides_clipped =
      record {
        sound = sounds;
        tops = sym (as_many s.top ts x.same_nets);
        bottoms = sym (as_many s.bottom us y.same_nets);
        top = x.words;
        bottom = y.words;
        loads = same_load s ts us x.same_nets y.same_nets x.fits y.fits;
        densities = same_density s ts us x.same_nets y.same_nets x.fits y.fits;
        assignments = same_assignment s ts us x.same_nets y.same_nets x.fits y.fits;
        same = bests;
        opened =
            λ e.
            let (cs, p) = assigned e in
            true_from_ne_false _ (λ f. true≢false (sym p ∙ (none_exactly s sound).0 (bests ∙ search-none (other s ts us) sounds f) cs));
        closed = λ e. (none_exactly s sound).1 (unassigned e);
      }

-- clipping one side leaves the other's words
others_same :
    (a b n : ℕ) (old new : List ℕ) → (b ≡ a → ⊥) → Clipped a n old new → (i : ℕ) → 1 ≤ i → i ≤ 64 → SameRule b i old new
others_same a b n old new apart c i p l =
    let first = c.from_left.alone in
    let then = c.from_right.alone in (
      then.ranges b i p l ∙ first.ranges b i p l,
      then.others b i p l (λ e. absurd (apart e)) ∙ first.others b i p l (λ e. absurd (apart e)),
    )

-- so what is said of a side still holds when the other has been clipped
side_stays :
    (l side : ℕ) (ts : List Terminal) (old new : List ℕ) (a : Bool) → length ts ≤ 64
    → ((i : ℕ) → 1 ≤ i → i ≤ 64 → SameRule side i old new) → ClippedSide l side ts (clipped_terminals side old ts) old a
    → ClippedSide l side ts (clipped_terminals side new ts) new a
side_stays l side ts old new a few same x =
    let vs : List Terminal = clipped_terminals side old ts in
    let stays : ClippedSide l side ts vs new a =
    record {
      same_nets = x.same_nets;
      sound = x.sound;
      words = rules_same side vs old new (λ i p q. same i p (omega (arith, length-with_words side old 0 ts))) x.words;
      fits = x.fits;
      opened = x.opened;
      closed = x.closed;
    } in
    rw (with_words_same side old new 0 ts (λ i p q. sym (same i p (omega arith)).1)) at stays

-- the two sides clipped one after the other: a sound sheet has the same loads, densities, assignments and best assignment with the clipped
-- sets, its pins can be placed where both sides are open, and else there is no assignment
pub sheet_clipped :
    (s : Sheet) → Sound s → (old mid new : List ℕ) → SideRules 0 s.top old → SideRules 1 s.bottom old
    → Clipped 0 (length s.top) old mid → Clipped 1 (length s.bottom) mid new
    → ClippedSheet s (clipped_sheet new s) new (side_open 0 (length s.top) mid && side_open 1 (length s.bottom) new)
sheet_clipped s sound old mid new p q c d =
    sides_clipped s sound (clipped_terminals 0 new s.top) (clipped_terminals 1 new s.bottom) new (side_open 0 (length s.top) mid)
    (side_open 1 (length s.bottom) new)
    (side_stays s.columns 0 s.top mid new (side_open 0 (length s.top) mid) sound.counts.0
    (others_same 1 0 (length s.bottom) mid new (λ e. omega arith) d)
    (side_clipped s.columns 0 s.top old mid sound.columns.1 sound.counts.0 sound.top p c))
    (side_clipped s.columns 1 s.bottom mid new sound.columns.1 sound.counts.1 sound.bottom
    (rules_same 1 s.bottom old mid
    (λ i g h. others_same 0 1 (length s.top) old mid (λ e. omega arith) c i g (omega (arith, sound.counts.1))) q) d)
