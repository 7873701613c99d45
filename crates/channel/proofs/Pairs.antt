-- Demand 3 of the best assignment: a sheet loosened keeps existence and does not raise the least density, and a sheet lengthened has
-- the same one.
-- Assumes nothing.
use Rattle.std.proofs.Common.{◌≡◌, ℕ, ◌+◌, ◌-◌, ◌≤◌, Bool, true, false, cond, List, [], ◌∷◌, ◌++◌, length, replicate, sym, refl, ap, ◌∙◌, arith, length-append}
use Rattle.std.proofs.Math.ListN.{length-replicate, length-map}
use Rattle.std.proofs.lemmas.Bool.{false≢true}
use Rattle.std.proofs.lemmas.List.{map-append}
use Rattle.channel.specs.Sheet.{Terminal, Sheet, Sound, nets, all_nets}
use Rattle.channel.specs.Assignment.{side_fits, fits, is_assignment}
use Rattle.channel.specs.Density.{nets_of, density}
use Rattle.channel.specs.Word.{Letter, has_top, has_bottom, columns_with, columns_of, word}
use Rattle.channel.specs.Word.Letter.{empty, top, bottom}
use Rattle.channel.specs.Best.{Found, best, Answers, IsBest}
use Rattle.channel.specs.Best.Found.{none, found}
use Rattle.channel.specs.Pairs.{Alike, Loosened, Free, BothFree, Lengthened, LeastKept}
use Rattle.channel.specs.Cut.{count, load, word_load}
use Rattle.channel.proofs.Pins.{word_rises, length-columns}
use Rattle.channel.proofs.Assignments.{word_fits, fits_sides, length-word, columns_of-word, fits_word, assignment_columns_of}
use Rattle.channel.proofs.Load.{density-load}
use Rattle.channel.proofs.Packed.{count-front, columns_padded, load_padded, refit, length_refit, count_refit, load_refit}
use Rattle.channel.proofs.Sides.{side-count, side_looser, Each, side_free}
use Rattle.channel.proofs.Best.{best_answers}

-- two sheets with the same mark, and the same nets in the same places
record SameNets (s t : Sheet) : Type 0 where
  mark : s.mark ≡ t.mark
  top : nets s.top ≡ nets t.top
  bottom : nets s.bottom ≡ nets t.bottom

-- terminals of the same nets in the same places
alike_nets : {R : Bool → Terminal → Terminal → Type 0} → ((h : Bool) (t u : Terminal) → R h t u → t.net ≡ u.net)
    → (h : Bool) (ts us : List Terminal) → Alike R h ts us → nets ts ≡ nets us
alike_nets n h [] [] a = refl
alike_nets n h [] (u ∷ us) a = absurd a
alike_nets n h (t ∷ ts) [] a = absurd a
alike_nets n h (t ∷ ts) (u ∷ us) a = rw (n h t u a.0, alike_nets n false ts us a.1)

same_nets : (s t : Sheet) {R : Bool → Terminal → Terminal → Type 0} → ((h : Bool) (t u : Terminal) → R h t u → t.net ≡ u.net)
    → s.mark ≡ t.mark
    → Alike R true s.top t.top
    → Alike R true s.bottom t.bottom
    → SameNets s t
same_nets s t n m x y = record { mark = m; top = alike_nets n true s.top t.top x; bottom = alike_nets n true s.bottom t.bottom y }

-- such sides have as many terminals
nets-length : (ts us : List Terminal) → nets ts ≡ nets us → length ts ≡ length us
nets-length ts us e = simp length-map at (ap length e)

-- such sheets give a word the same load
load_same : (s t : Sheet) → SameNets s t → (a : Letter) (i j : ℕ) → load s a i j ≡ load t a i j
unfolding load nets_of
load_same s t e a i j =
    let all : all_nets s ≡ all_nets t = simp (map-append, e.top, e.bottom) in
    rw (all, e.mark, e.top, e.bottom)

word_load_same : (s t : Sheet) → SameNets s t → (w : List Letter) → word_load s w ≡ word_load t w
word_load_same s t e [] = refl
word_load_same s t e (a ∷ w) = rw (load_same s t e a, word_load_same s t e w)

-- a word as long as the channel, whose columns are an assignment
record Fitting (s : Sheet) (w : List Letter) : Type 0 where
  size : length w ≡ s.columns
  top : side_fits s.top (columns_with has_top w) ≡ true
  bottom : side_fits s.bottom (columns_with has_bottom w) ≡ true

-- the same as the one test of both sides
fitting_fits : (s : Sheet) (w : List Letter) → Fitting s w → word_fits s w ≡ true
unfolding fits
fitting_fits s w f = rw f.top f.bottom

fits_fitting : (s : Sheet) (w : List Letter) → length w ≡ s.columns → word_fits s w ≡ true → Fitting s w
fits_fitting s w l e =
    let (x, y) = fits_sides s (columns_with has_top w) (columns_with has_bottom w) e in
    record { size = l; top = x; bottom = y }

-- its density is its load
fitting_density : (s : Sheet) (w : List Letter) → Fitting s w → density s (columns_of w) ≡ word_load s w
fitting_density s w f = density-load s w f.size (side-count has_top w s.top f.top) (side-count has_bottom w s.bottom f.bottom)

-- a word that fits a sheet, with empty letters in front, fits the sheet loosened
looser_fitting : (s t : Sheet) → Loosened s t → (w : List Letter) → Fitting s w → Fitting t (replicate (t.columns - s.columns) empty ++ w)
looser_fitting s t h w f =
    record {
      size = simp (length-append, length-replicate) (omega arith);
      top = rw (columns_padded has_top) (side_looser s.top t.top (columns_with has_top w) h.top f.top);
      bottom = rw (columns_padded has_bottom) (side_looser s.bottom t.bottom (columns_with has_bottom w) h.bottom f.bottom);
    }

-- a sheet whose sets and ranges say nothing, with a column for each terminal
record FreeSheet (s : Sheet) : Type 0 where
  room : length s.top + length s.bottom ≤ s.columns
  top : Each (Free s.columns) true s.top
  bottom : Each (Free s.columns) true s.bottom

-- a word's occupied letters fit it, where they have a pin for each terminal
free_fitting : (s : Sheet) → s.columns ≤ 64 → FreeSheet s → (w : List Letter) → count has_top w ≡ length s.top
    → count has_bottom w ≡ length s.bottom
    → Fitting s (refit s.columns w)
free_fitting s l f w x y =
    record { size = size; top = side has_top refl s.top x f.top; bottom = side has_bottom refl s.bottom y f.bottom }
  where
    size : length (refit s.columns w) ≡ s.columns
    size = length_refit s.columns w (omega arith)

    side : (g : Letter → Bool) → g empty ≡ false → (ts : List Terminal) → count g w ≡ length ts → Each (Free s.columns) true ts
        → side_fits ts (columns_with g (refit s.columns w)) ≡ true
    side g e ts n h =
        side_free s.columns l ts (columns_with g (refit s.columns w)) h
        (rw size at (word_rises g (refit s.columns w))) (rw (length-columns, count_refit g e) n)

-- what lengthened says of a side of the two sheets
alike_free : (l m : ℕ) (h : Bool) (ts us : List Terminal) → Alike (BothFree l m) h ts us → Each (Free l) h ts × Each (Free m) h us
alike_free l m h [] [] a = (tt, tt)
alike_free l m h [] (u ∷ us) a = absurd a
alike_free l m h (t ∷ ts) [] a = absurd a
alike_free l m h (t ∷ ts) (u ∷ us) a = let (x, y) = alike_free l m false ts us a.1 in ((a.0.first, x), (a.0.second, y))

-- a free sheet has an assignment
free_word : (s : Sheet) → s.columns ≤ 64 → FreeSheet s → (w : List Letter) × Fitting s w
free_word s l f = (refit s.columns w, free_fitting s l f w (omega (arith, pins-of has_top)) (omega (arith, pins-of has_bottom)))
  where
    w : List Letter
    w = replicate (length s.top) top ++ (replicate (length s.bottom) bottom ++ [])

    pins-of : (f : Letter → Bool) → count f w ≡ cond (f top) (length s.top) 0 + (cond (f bottom) (length s.bottom) 0 + 0)
    pins-of f = rw (count-front f (length s.top) top, count-front f (length s.bottom) bottom)

-- a word that fits a sheet can be moved to a free sheet with the same nets, and has the same load there
free_move : (s t : Sheet) → t.columns ≤ 64 → FreeSheet t → SameNets s t → (w : List Letter) → Fitting s w
    → (v : List Letter) × Fitting t v × (word_load t v ≡ word_load t w)
free_move s t l f n w g =
    let tops = pins-kept has_top w s.top t.top g.top n.top in
    let bottoms = pins-kept has_bottom w s.bottom t.bottom g.bottom n.bottom in
    (refit t.columns w, free_fitting t l f w tops bottoms, load_refit t t.columns w)
  where
    pins-kept : (side : Letter → Bool) (w : List Letter) (ts us : List Terminal) → side_fits ts (columns_with side w) ≡ true
        → nets ts ≡ nets us → count side w ≡ length us
    pins-kept side w ts us e d = side-count side w ts e ∙ nets-length ts us d

-- what lengthened says of the two sheets
lengthened_free : (s t : Sheet) → Lengthened s t → FreeSheet s × FreeSheet t × SameNets s t
lengthened_free s t r =
    let (a, b) = alike_free s.columns t.columns true s.top t.top r.top in
    let (c, d) = alike_free s.columns t.columns true s.bottom t.bottom r.bottom in
    let n : SameNets s t = same_nets s t (λ h x y z. z.net) r.mark r.top r.bottom in
    let p : length s.top ≡ length t.top = nets-length s.top t.top n.top in
    let q : length s.bottom ≡ length t.bottom = nets-length s.bottom t.bottom n.bottom in
    (record { room = r.room; top = a; bottom = c }, record { room = omega arith; top = b; bottom = d }, n)

-- the word of the best assignment
best-word : (s : Sheet) → Sound s → (d : ℕ) (cs : List ℕ) → best s ≡ found d cs → (w : List Letter) × Fitting s w × (word_load s w ≡ d)
best-word s h d cs e =
    let b : IsBest s d cs = rw e at (best_answers s h) in
    let fit : Fitting s (word s cs) = fits_fitting s (word s cs) (length-word s cs) (fits_word s h cs b.assignment) in
    (word s cs, fit, sym (fitting_density s (word s cs) fit) ∙ ap (density s) (columns_of-word s h cs b.assignment) ∙ b.exact)

-- where a word fits there is a best assignment, with no more density
least-word : (s : Sheet) → Sound s → (w : List Letter) → Fitting s w → (d : ℕ) × (cs : List ℕ) × (best s ≡ found d cs) × (d ≤ word_load s w)
least-word s h w f = go (best s) refl
  where
    a : is_assignment s (columns_of w) ≡ true
    a = assignment_columns_of s w (fitting_fits s w f)

    go : (b : Found) → best s ≡ b → (d : ℕ) × (cs : List ℕ) × (best s ≡ found d cs) × (d ≤ word_load s w)
    go none e = let n : Answers s none = rw e at (best_answers s h) in absurd (false≢true (sym (n (columns_of w)) ∙ a))
    go (found d cs) e =
        let b : IsBest s d cs = rw e at (best_answers s h) in
        (d, cs, e, rw (fitting_density s w f) at (b.least (columns_of w) a))

-- where each word that fits s can be moved to t with the same load, t has an assignment and no more density than s
carry : (s t : Sheet) → Sound s → Sound t → SameNets s t
    → ((w : List Letter) → Fitting s w → (v : List Letter) × Fitting t v × (word_load t v ≡ word_load t w))
    → (d : ℕ) (cs : List ℕ)
    → best s ≡ found d cs
    → (e : ℕ) × (es : List ℕ) × (best t ≡ found e es) × (e ≤ d)
carry s t h k n move d cs b =
    let (w, f, l) = best-word s h d cs b in
    let (v, g, m) = move w f in
    let (e, es, r, x) = least-word t k v g in
    (e, es, r, rw (m ∙ sym (word_load_same s t n w) ∙ l) at x)

-- demand 3
pub least_kept : (s t : Sheet) → Sound s → Sound t → LeastKept s t
least_kept s t h k = record { loosened = loosened; lengthened = lengthened }
  where
    loosened : Loosened s t → (d : ℕ) (cs : List ℕ) → best s ≡ found d cs → (e : ℕ) × (es : List ℕ) × (best t ≡ found e es) × (e ≤ d)
    loosened r =
        carry s t h k (same_nets s t (λ h x y z. z.net) r.mark r.top r.bottom)
        (λ w f. (replicate (t.columns - s.columns) empty ++ w, looser_fitting s t r w f, load_padded t (t.columns - s.columns) w))

    lengthened : Lengthened s t → (d : ℕ) × (cs : List ℕ) × (es : List ℕ) × (best s ≡ found d cs) × (best t ≡ found d es)
    lengthened r =
        let (f, g, n) = lengthened_free s t r in
        let m : SameNets t s = record { mark = sym n.mark; top = sym n.top; bottom = sym n.bottom } in
        let (w, fit) = free_word s h.columns.1 f in
        let (d, cs, x, _) = least-word s h w fit in
        let (e, es, y, below) = carry s t h k n (free_move s t k.columns.1 g n) d cs x in
        let (c, bs, z, above) = carry t s k h m (free_move t s h.columns.1 f m) e es y in
        let same : d ≡ c = cc in
        let level : e ≡ d = omega arith in
        (d, cs, es, x, rw level at y)
