-- The columns that fit a side of modules are, one to one, the placements of the modules without overlap.
-- Assumes nothing.
use Rattle.std.proofs.Common.{◌≡◌, ℕ, suc, ◌+◌, ◌-◌, ◌*◌, ◌^◌, ◌<◌, ◌≤◌, Bool, true, false, ◌&&◌, leb, List, [], ◌∷◌, ◌++◌, length, drop, sym, refl, ap, ◌∙◌, ap₂, true≢false, arith, drop_at, le-leb, leb-true}
use Rattle.std.proofs.Math.Bool.{and-eq-true_iff}
use Rattle.channel.specs.Sheet.{Terminal}
use Rattle.channel.specs.Assignment.{allows, later_fit, side_fits}
use Rattle.channel.proofs.Sets.{allowed-column}
use Rattle.channel.proofs.Assignments.{later_parts}
use Rattle.channel.proofs.Sides.{later_test}
use Rattle.modules.specs.declared.Pin.{Pin}
use Rattle.modules.specs.Modules.{Module, first_offset, last_offset, gap_of, pin_terminal, inner_terminals, pin_terminals}
use Rattle.modules.specs.Modules.{first_least, first_greatest, terminals_behind, side_terminals}
use Rattle.modules.proofs.Moved.{moved_edge, edge_moved}
use Rattle.modules.proofs.Sound.{Rising, offsets, SoundModules}
use Rattle.placements.specs.Placements.{placed_from, is_placed, pin_columns, side_columns, edge_of, side_edges}

-- The first module of a side is tied to nothing, a later one to the column of the last pin before it: the test of their columns, and
-- where the module may start.
abbrev fits_behind : Bool → List Terminal → ℕ → List ℕ → Bool
fits_behind true ts before cs = side_fits ts cs
fits_behind false ts before cs = later_fit ts before cs

abbrev start_behind : Bool → ℕ → ℕ → ℕ
start_behind true gap before = 0
start_behind false gap before = before + gap + 1

-- the test of a module, from what it asks, and back
placed_test :
    (start : ℕ) (m : Module) (ms : List Module) (e : ℕ) (es : List ℕ) → allows m.edges e ≡ true → start ≤ e
    → placed_from (e + m.width) ms es ≡ true → placed_from start (m ∷ ms) (e ∷ es) ≡ true
placed_test start m ms e es a h f = rw (a, le-leb start e h) f

placed_parts :
    (start : ℕ) (m : Module) (ms : List Module) (e : ℕ) (es : List ℕ) → placed_from start (m ∷ ms) (e ∷ es) ≡ true
    → (allows m.edges e ≡ true) × (start ≤ e) × (placed_from (e + m.width) ms es ≡ true)
placed_parts start m ms e es h =
    let (a, r) = (and-eq-true_iff (allows m.edges e) (leb start e && placed_from (e + m.width) ms es)).0 h in
    let (s, f) = (and-eq-true_iff (leb start e) (placed_from (e + m.width) ms es)).0 r in
    (a, leb-true start e s, f)

-- One module at an allowed edge, with what stands behind it: its pins fit.
module _ (edges e w : ℕ) (allowed : allows edges e ≡ true) (one : 1 ≤ e) (ts : List Terminal) (cs : List ℕ) where
  inner_fits :
      (o : ℕ) (ps : List Pin) → Rising w o ps → later_fit ts (e + last_offset o ps - 1) cs ≡ true
      → later_fit (inner_terminals edges o ps ++ ts) (e + o - 1) (pin_columns e ps ++ cs) ≡ true
  inner_fits o [] r f = f
  inner_fits o (p ∷ ps) r f =
      let rise : o < p.offset = r.0 in
      later_test (pin_terminal edges (p.offset - o) (p.offset - o) p) (inner_terminals edges p.offset ps ++ ts) (e + o - 1)
      (e + p.offset - 1) (pin_columns e ps ++ cs) (moved_edge edges p.offset e (omega arith) ∙ allowed) (omega arith) (omega arith)
      (inner_fits p.offset ps r.1 f)

  pins_fit :
      (is_first : Bool) (gap before : ℕ) (pins : List Pin) → 1 ≤ length pins → Rising w 0 pins → start_behind is_first gap before ≤ e
      → e + first_offset pins ≤ 255 → later_fit ts (e + last_offset 0 pins - 1) cs ≡ true
      → fits_behind is_first (pin_terminals edges (first_least is_first gap (first_offset pins)) (first_greatest is_first) pins ++ ts) before
      (pin_columns e pins ++ cs)
      ≡ true
  pins_fit is_first gap before [] some r start near f = absurd (omega arith)
  pins_fit true gap before (p ∷ ps) some r start near f =
      rw (moved_edge edges p.offset e r.0 ∙ allowed) (inner_fits p.offset ps r.1 f)
  pins_fit false gap before (p ∷ ps) some r start near f =
      later_test (pin_terminal edges (gap + p.offset) 255 p) (inner_terminals edges p.offset ps ++ ts) before (e + p.offset - 1)
      (pin_columns e ps ++ cs) (moved_edge edges p.offset e r.0 ∙ allowed) (omega arith) (omega arith)
      (inner_fits p.offset ps r.1 f)

-- The way back: columns that fit pins behind one at o are those of the edge.
module _ (edges w e : ℕ) (one : 1 ≤ e) (ts : List Terminal) where
  inner_back :
      (o : ℕ) (ps : List Pin) → Rising w o ps → (cs : List ℕ) → later_fit (inner_terminals edges o ps ++ ts) (e + o - 1) cs ≡ true
      → (cs ≡ pin_columns e ps ++ drop (length ps) cs) × (later_fit ts (e + last_offset o ps - 1) (drop (length ps) cs) ≡ true)
  inner_back o [] r cs f = (refl, f)
  inner_back o (p ∷ ps) r [] f = absurd (true≢false (sym f))
  inner_back o (p ∷ ps) r (c ∷ cs) f =
      let rise : o < p.offset = r.0 in
      let (q, low, high, later) =
      later_parts (pin_terminal edges (p.offset - o) (p.offset - o) p) (inner_terminals edges p.offset ps ++ ts) (e + o - 1) c cs f in
      let here : c ≡ e + p.offset - 1 = omega arith in
      let (same, fits) =
      inner_back p.offset ps r.1 cs
      (ap (λ (b : ℕ). later_fit (inner_terminals edges p.offset ps ++ ts) b cs) (sym here) ∙ later) in
      (ap₂ (λ (x : ℕ) (xs : List ℕ). x ∷ xs) here same, fits)

-- what columns that fit a module and what stands behind it say of its edge
record Stands (edges least : ℕ) (pins : List Pin) (ts : List Terminal) (cs : List ℕ) : Type 0 where
  start : least ≤ edge_of pins cs
  allowed : allows edges (edge_of pins cs) ≡ true
  columns : cs ≡ pin_columns (edge_of pins cs) pins ++ drop (length pins) cs
  behind : later_fit ts (edge_of pins cs + last_offset 0 pins - 1) (drop (length pins) cs) ≡ true

module _ (edges w : ℕ) (ts : List Terminal) where
  stands :
      (s : ℕ) (p : Pin) (ps : List Pin) (c : ℕ) (cs : List ℕ) → Rising w 0 (p ∷ ps) → allows (edges * 2 ^ (p.offset - 1)) c ≡ true
      → later_fit (inner_terminals edges p.offset ps ++ ts) c cs ≡ true → s + p.offset ≤ c + 1 → Stands edges s (p ∷ ps) ts (c ∷ cs)
  stands s p ps c cs r a f start =
      let (right, allowed) = edge_moved edges p.offset c r.0 a in
      let o : 0 < p.offset = r.0 in
      let here : c ≡ c + 1 - p.offset + p.offset - 1 = omega arith in
      let (same, fits) =
      inner_back edges w (c + 1 - p.offset) (omega arith) ts p.offset ps r.1 cs
      (ap (λ (b : ℕ). later_fit (inner_terminals edges p.offset ps ++ ts) b cs) (sym here) ∙ f) in
      record { start = omega arith; allowed = allowed; columns = ap₂ (λ (x : ℕ) (xs : List ℕ). x ∷ xs) here same; behind = fits }

  pins-back :
      (is_first : Bool) (gap before : ℕ) (pins : List Pin) (cs : List ℕ) → 1 ≤ length pins → Rising w 0 pins
      → fits_behind is_first (pin_terminals edges (first_least is_first gap (first_offset pins)) (first_greatest is_first) pins ++ ts) before cs
      ≡ true
      → Stands edges (start_behind is_first gap before) pins ts cs
  pins-back is_first gap before [] cs some r f = absurd (omega arith)
  pins-back true gap before (p ∷ ps) [] some r f = absurd (true≢false (sym f))
  pins-back true gap before (p ∷ ps) (c ∷ cs) some r f =
      let (a, later) =
      (and-eq-true_iff (allows (edges * 2 ^ (p.offset - 1)) c) (later_fit (inner_terminals edges p.offset ps ++ ts) c cs)).0 f in
      let (right, _) = edge_moved edges p.offset c r.0 a in
      stands 0 p ps c cs r a later (omega arith)
  pins-back false gap before (p ∷ ps) [] some r f = absurd (true≢false (sym f))
  pins-back false gap before (p ∷ ps) (c ∷ cs) some r f =
      let (a, low, high, later) =
      later_parts (pin_terminal edges (gap + p.offset) 255 p) (inner_terminals edges p.offset ps ++ ts) before c cs f in
      stands (before + gap + 1) p ps c cs r a later (omega arith)

-- a module's own columns give its edge back
length-columns : (e : ℕ) (ps : List Pin) → length (pin_columns e ps) ≡ length ps
length-columns e [] = refl
length-columns e (p ∷ ps) = ap suc (length-columns e ps)

edge_back : (w e : ℕ) (pins : List Pin) (cs : List ℕ) → 1 ≤ length pins → Rising w 0 pins → edge_of pins (pin_columns e pins ++ cs) ≡ e
edge_back w e [] cs some r = absurd (omega arith)
edge_back w e (p ∷ ps) cs some r = let o : 0 < p.offset = r.0 in omega arith

-- The modules of a side.
module _ (l : ℕ) (short : l ≤ 64) where
  -- the next module starts at or right of the edge plus the width, said of the last pin's column
  next_start : (w last e : ℕ) → 1 ≤ e → last ≤ w → e + last - 1 + (w - last) + 1 ≡ e + w
  next_start w last e one h = omega arith

  placed_fits :
      (is_first : Bool) (gap before : ℕ) (ms : List Module) (es : List ℕ) → SoundModules l ms
      → placed_from (start_behind is_first gap before) ms es ≡ true
      → fits_behind is_first (terminals_behind is_first gap ms) before (side_columns ms es) ≡ true
  placed_fits true gap before [] [] s h = refl
  placed_fits false gap before [] [] s h = refl
  placed_fits is_first gap before [] (e ∷ es) s h = absurd (true≢false (sym h))
  placed_fits is_first gap before (m ∷ ms) [] s h = absurd (true≢false (sym h))
  placed_fits is_first gap before (m ∷ ms) (e ∷ es) s h =
      let (a, start, f) = placed_parts (start_behind is_first gap before) m ms e es h in
      let (one, high) = allowed-column (l + 1 - m.width) m.edges e a s.0.edges in
      let (o, ol, lw) = offsets m s.0.valid in
      let (_, wide) = s.0.valid.width in
      pins_fit m.edges e m.width a one (terminals_behind false (gap_of m) ms) (side_columns ms es) is_first gap before m.pins
      s.0.valid.some s.0.valid.rising start (omega arith)
      (placed_fits false (gap_of m) (e + last_offset 0 m.pins - 1) ms es s.1
      (ap (λ (k : ℕ). placed_from k ms es) (next_start m.width (last_offset 0 m.pins) e one lw) ∙ f))

  edges_back :
      (start : ℕ) (ms : List Module) (es : List ℕ) → SoundModules l ms → placed_from start ms es ≡ true
      → side_edges ms (side_columns ms es) ≡ es
  edges_back start [] [] s h = refl
  edges_back start [] (e ∷ es) s h = absurd (true≢false (sym h))
  edges_back start (m ∷ ms) [] s h = absurd (true≢false (sym h))
  edges_back start (m ∷ ms) (e ∷ es) s h =
      let (a, _, f) = placed_parts start m ms e es h in
      ap₂ (λ (x : ℕ) (xs : List ℕ). x ∷ xs)
      (edge_back m.width e m.pins (side_columns ms es) s.0.valid.some s.0.valid.rising)
      (ap (side_edges ms) (drop_at (pin_columns e m.pins) (side_columns ms es) (length m.pins) (length-columns e m.pins))
      ∙ edges_back (e + m.width) ms es s.1 f)

  fits_placed :
      (is_first : Bool) (gap before : ℕ) (ms : List Module) (cs : List ℕ) → SoundModules l ms
      → fits_behind is_first (terminals_behind is_first gap ms) before cs ≡ true
      → (placed_from (start_behind is_first gap before) ms (side_edges ms cs) ≡ true) × (side_columns ms (side_edges ms cs) ≡ cs)
  fits_placed is_first gap before [] [] s h = (refl, refl)
  fits_placed true gap before [] (c ∷ cs) s h = absurd (true≢false (sym h))
  fits_placed false gap before [] (c ∷ cs) s h = absurd (true≢false (sym h))
  fits_placed is_first gap before (m ∷ ms) cs s h =
      let e : ℕ = edge_of m.pins cs in
      let last : ℕ = last_offset 0 m.pins in
      let rest = drop (length m.pins) cs in
      let there =
      pins-back m.edges m.width (terminals_behind false (gap_of m) ms) is_first gap before m.pins cs s.0.valid.some
      s.0.valid.rising h in
      let (one, high) = allowed-column (l + 1 - m.width) m.edges e there.allowed s.0.edges in
      let (o, ol, lw) = offsets m s.0.valid in
      let (placed, columns) = fits_placed false (gap_of m) (e + last - 1) ms rest s.1 there.behind in (
        placed_test (start_behind is_first gap before) m ms e (side_edges ms rest) there.allowed there.start
            (ap (λ (k : ℕ). placed_from k ms (side_edges ms rest)) (sym (next_start m.width last e one lw)) ∙ placed),
        ap (λ (xs : List ℕ). pin_columns e m.pins ++ xs) columns ∙ sym there.columns,
      )

-- One side: the columns of a placement fit and give its edges back, and the edges of columns that fit are a placement and give the
-- columns back.
pub side_matches :
    (l : ℕ) (ms : List Module) → l ≤ 64 → SoundModules l ms
    → ((es : List ℕ) → is_placed ms es ≡ true
    → (side_fits (side_terminals ms) (side_columns ms es) ≡ true) × (side_edges ms (side_columns ms es) ≡ es))
    × ((cs : List ℕ) → side_fits (side_terminals ms) cs ≡ true
    → (is_placed ms (side_edges ms cs) ≡ true) × (side_columns ms (side_edges ms cs) ≡ cs))
unfolding is_placed
side_matches l ms h s =
    (λ es p. (placed_fits l h true 0 0 ms es s p, edges_back l h 0 ms es s p), λ cs f. fits_placed l h true 0 0 ms cs s f)
