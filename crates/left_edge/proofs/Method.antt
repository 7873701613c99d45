-- The left-edge method on intervals that come by left end: nets on one track share no column, each is on the lowest free track, and so the
-- tracks are as many as the most nets in one column.
-- Assumes nothing.
use Rattle.std.proofs.Common.{◌≡◌, ℕ, zero, suc, ◌<◌, ◌≤◌, Bool, true, false, cond, ◌&&◌, ◌||◌, eqb, ltb, leb, List, [], ◌∷◌, map, get_or, sym, refl, ap, ◌∙◌, true≢false, arith, ltb-false, ltb-true, eq-eqb, eqb-true, le-leb, leb-true}
use Rattle.std.proofs.Math.Dec.{eqb-zero-suc, eqb-suc-zero, eqb-suc-suc}
use Rattle.std.proofs.lemmas.Bool.{false_from_ne_true, and_parts}
use Rattle.channel.specs.Density.{any, weight_of, maximum_to}
use Rattle.left_edge.specs.declared.Interval.{Interval}
use Rattle.left_edge.specs.declared.Span.{Span}
use Rattle.left_edge.specs.Lists.{Each, Pairwise, EachAfter}
use Rattle.left_edge.specs.Method.{passed, place, track_on, step, span_on, left_edge_from, left_edge}
use Rattle.left_edge.specs.Routes.{Clear, Zero, Lowest, Routes}
use Rattle.left_edge.proofs.Lists.{each_map, each_all}
use Rattle.left_edge.proofs.Number.{Begins, number, used}

-- The tracks' ends by index: 0 behind the last. The lowest free track ended left of l, and those below it reach l
pub passed_free : (es : List ℕ) (l : ℕ) → 1 ≤ l → get_or es (passed es l) 0 < l
passed_free [] l h = omega arith
passed_free (e ∷ es) l h = go (ltb e l) refl (passed_free es l h)
  where
    go : (b : Bool) → ltb e l ≡ b → get_or es (passed es l) 0 < l → get_or (e ∷ es) (cond b 0 (suc (passed es l))) 0 < l
    go true q k = ltb-true e l q
    go false q k = k

pub passed-reach : (es : List ℕ) (l k : ℕ) → k < passed es l → l ≤ get_or es k 0
passed-reach [] l k h = absurd (omega arith)
passed-reach (e ∷ es) l k h = go (ltb e l) refl k h (passed-reach es l)
  where
    go : (b : Bool) → ltb e l ≡ b → (k : ℕ) → k < cond b 0 (suc (passed es l)) → ((j : ℕ) → j < passed es l → l ≤ get_or es j 0)
        → l ≤ get_or (e ∷ es) k 0
    go true q k h f = absurd (omega arith)
    go false q zero h f = ltb-false e l q
    go false q (suc k) h f = f k (omega arith)

-- that track then ends with r, and no other changes
pub place_at : (es : List ℕ) (l r k : ℕ) → get_or (place es l r) k 0 ≡ cond (eqb (passed es l) k) r (get_or es k 0)
place_at [] l r zero = refl
place_at [] l r (suc k) = rw (eqb-zero-suc k)
place_at (e ∷ es) l r k = go (ltb e l) k (place_at es l r)
  where
    go : (b : Bool) (k : ℕ) → ((j : ℕ) → get_or (place es l r) j 0 ≡ cond (eqb (passed es l) j) r (get_or es j 0))
        → get_or (cond b (r ∷ es) (e ∷ place es l r)) k 0 ≡ cond (eqb (cond b 0 (suc (passed es l))) k) r (get_or (e ∷ es) k 0)
    go true zero f = refl
    go true (suc k) f = rw (eqb-zero-suc k)
    go false zero f = rw (eqb-suc-zero (passed es l))
    go false (suc k) f = rw (eqb-suc-suc (passed es l) k) (f k)

-- a step writes the right end at the interval's track, counted from 1, and nothing else
pub step_at_lem : (es : List ℕ) (x : Interval) (k : ℕ) → get_or (step es x) k 0 ≡ cond (eqb (track_on es x) (suc k)) x.right (get_or es k 0)
step_at_lem es x k = go x.counts
  where
    go : (b : Bool) → get_or (cond b (place es x.left x.right) es) k 0
        ≡ cond (eqb (cond b (suc (passed es x.left)) 0) (suc k)) x.right (get_or es k 0)
    go true = rw (eqb-suc-suc (passed es x.left) k) (place_at es x.left x.right k)
    go false = rw (eqb-zero-suc k)

-- an interval with a track counts, and its track is the lowest free one
track_taken : (es : List ℕ) (x : Interval) (k : ℕ) → track_on es x ≡ suc k → (x.counts ≡ true) × (passed es x.left ≡ k)
track_taken es x k = go x.counts
  where
    go : (b : Bool) → cond b (suc (passed es x.left)) 0 ≡ suc k → (b ≡ true) × (passed es x.left ≡ k)
    go true e = (refl, omega arith)
    go false e = absurd (omega arith)

-- what holds of each interval's span, on whatever tracks
pub each_span :
    (P : Interval → Type 0) (Q : Span → Type 0) → ((es : List ℕ) (x : Interval) → P x → Q (span_on es x))
    → (es : List ℕ) (xs : List Interval) → Each P xs → Each Q (left_edge_from es xs)
each_span P Q f es [] h = tt
each_span P Q f es (x ∷ xs) h = (f es x h.0, each_span P Q f (step es x) xs h.1)

-- the nets are as they were, in their order
pub nets_same : (es : List ℕ) (xs : List Interval) → map (λ (y : Span). y.net) (left_edge_from es xs) ≡ map (λ (x : Interval). x.net) xs
nets_same es [] = refl
nets_same es (x ∷ xs) = ap (λ (ns : List ℕ). x.net ∷ ns) (nets_same (step es x) xs)

-- by left end
abbrev pub NoLater : Interval → Interval → Type 0
NoLater x y = x.left ≤ y.left

module _ (l : ℕ) (crossing : ℕ → ℕ → Bool) where
  -- an interval that says which of the columns 1 to l its net crosses, and lies among them if there are any
  pub record Fits (x : Interval) : Type 0 where
    pub exact : (c : ℕ) → 1 ≤ c → c ≤ l → crossing x.net c ≡ (x.counts && (leb x.left c && leb c x.right))
    pub within : x.counts ≡ true → (1 ≤ x.left) × (x.left ≤ x.right) × (x.right ≤ l)

  module _ (x : Interval) (fits : Fits x) where
    crosses-in : (c : ℕ) → x.counts ≡ true → x.left ≤ c → c ≤ x.right → crossing x.net c ≡ true
    crosses-in c counts from to =
        let (first, order, last) = fits.within counts in
        fits.exact c (omega arith) (omega arith) ∙ rw (counts, le-leb x.left c from, le-leb c x.right to)

    in-crosses : (c : ℕ) → 1 ≤ c → c ≤ l → crossing x.net c ≡ true → (x.counts ≡ true) × (x.left ≤ c) × (c ≤ x.right)
    in-crosses c p q e =
        let (counts, ends) = and_parts x.counts (leb x.left c && leb c x.right) (sym (fits.exact c p q) ∙ e) in
        let (from, to) = and_parts (leb x.left c) (leb c x.right) ends in
        (counts, leb-true x.left c from, leb-true c x.right to)

  -- "Nets that cross nothing get track 0", and no others
  zero_one : (es : List ℕ) (x : Interval) → Fits x → Zero l crossing (span_on es x)
  zero_one es x fits = (forth, back)
    where
      forth : track_on es x ≡ 0 → (c : ℕ) → 1 ≤ c → c ≤ l → crossing x.net c ≡ false
      forth e c p q = false_from_ne_true (crossing x.net c) (λ d. omega (arith, rw (in-crosses x fits c p q d).0 at e))

      back : ((c : ℕ) → 1 ≤ c → c ≤ l → crossing x.net c ≡ false) → track_on es x ≡ 0
      back f = go x.counts refl
        where
          go : (b : Bool) → x.counts ≡ b → cond b (suc (passed es x.left)) 0 ≡ 0
          go false q = refl
          go true q =
              let (first, order, last) = fits.within q in
              let none = f x.left first (omega arith) in
              absurd (true≢false (sym (crosses-in x fits x.left q (omega arith) order) ∙ none))

  begins_one : (es : List ℕ) (x : Interval) → Fits x → Begins l crossing (span_on es x)
  begins_one es x fits = go x.counts refl
    where
      go : (b : Bool) → x.counts ≡ b → 1 ≤ cond b (suc (passed es x.left)) 0
          → (1 ≤ x.left) × (x.left ≤ l) × (crossing x.net x.left ≡ true)
      go false q h = absurd (omega arith)
      go true q h =
          let (first, order, last) = fits.within q in
          (first, omega arith, crosses-in x fits x.left q (omega arith) order)

  -- a span on track k + 1 crosses no column that the track reaches before it
  abbrev After : List ℕ → Span → Type 0
  After es y = (k c : ℕ) → y.track ≡ suc k → 1 ≤ c → c ≤ l → c ≤ get_or es k 0 → crossing y.net c ≡ false

  after_one : (es : List ℕ) (x : Interval) → Fits x → After es (span_on es x)
  after_one es x fits k c e p q h = false_from_ne_true (crossing x.net c) refute
    where
      refute : crossing x.net c ≡ true → ⊥
      refute d =
          let (counts, from, to) = in-crosses x fits c p q d in
          let free : get_or es k 0 < x.left = rw (track_taken es x k e).1 at (passed_free es x.left (fits.within counts).0) in
          omega arith

  -- no track's end moves left
  step_grows : (es : List ℕ) (x : Interval) (k : ℕ) → Fits x → get_or es k 0 ≤ get_or (step es x) k 0
  step_grows es x k fits = rw (step_at_lem es x k) (go (eqb (track_on es x) (suc k)) refl)
    where
      go : (b : Bool) → eqb (track_on es x) (suc k) ≡ b → get_or es k 0 ≤ cond b x.right (get_or es k 0)
      go false q = omega arith
      go true q =
          let (counts, same) = track_taken es x k (eqb-true (track_on es x) (suc k) q) in
          let (first, order, last) = fits.within counts in
          let free : get_or es k 0 < x.left = rw same at (passed_free es x.left first) in
          omega arith

  after-from : (es : List ℕ) (xs : List Interval) → Each Fits xs → Each (After es) (left_edge_from es xs)
  after-from es [] h = tt
  after-from es (x ∷ xs) h = (
    after_one es x h.0,
    each_map (After (step es x)) (After es) (left_edge_from (step es x) xs)
        (λ y a k c e p q r. a k c e p q (omega (arith, step_grows es x k h.0))) (after-from (step es x) xs h.1),
  )

  -- "nets on one track share no column"
  apart_from : (es : List ℕ) (xs : List Interval) → Each Fits xs → Pairwise (Clear l crossing) (left_edge_from es xs)
  apart_from es [] h = tt
  apart_from es (x ∷ xs) h = (
    each_map (After (step es x)) (Clear l crossing (span_on es x)) (left_edge_from (step es x) xs) clear (after-from (step es x) xs h.1),
    apart_from (step es x) xs h.1,
  )
    where
      clear : (y : Span) → After (step es x) y → Clear l crossing (span_on es x) y
      clear y after e c p q = go (crossing x.net c) refl
        where
          go : (b : Bool) → crossing x.net c ≡ b → (b && crossing y.net c) ≡ false
          go false d = refl
          go true d =
              let (counts, from, to) = in-crosses x h.0 c p q d in
              let k : ℕ = passed es x.left in
              let track : track_on es x ≡ suc k = rw counts in
              let end : get_or (step es x) k 0 ≡ x.right = rw (step_at_lem es x k, eq-eqb (track_on es x) (suc k) track) in
              after k c (sym e ∙ track) p q (omega arith)

  -- a track that reaches column c, at or right of every left end so far, has a span in c
  abbrev Reached : ℕ → List ℕ → List Span → Type 0
  Reached m es before =
      (k c : ℕ) → m ≤ c → 1 ≤ c → c ≤ l → c ≤ get_or es k 0
      → any (λ (y : Span). eqb y.track (suc k) && crossing y.net c) before ≡ true

  reached-step : (m : ℕ) (es : List ℕ) (x : Interval) (before : List Span) → Fits x → m ≤ x.left → Reached m es before
      → Reached x.left (step es x) (span_on es x ∷ before)
  reached-step m es x before fits h f k c i p q r =
      go (eqb (track_on es x) (suc k)) refl (rw (step_at_lem es x k) at r) (f k c (omega arith) p q)
    where
      rest : Bool
      rest = any (λ (y : Span). eqb y.track (suc k) && crossing y.net c) before

      go : (b : Bool) → eqb (track_on es x) (suc k) ≡ b → c ≤ cond b x.right (get_or es k 0) → (c ≤ get_or es k 0 → rest ≡ true)
          → (b && crossing x.net c || rest) ≡ true
      go false e to old = old to
      go true e to old = rw (crosses-in x fits c (track_taken es x k (eqb-true (track_on es x) (suc k) e)).0 i to)

  -- "each on the lowest free track"
  lowest-from : (m : ℕ) (es : List ℕ) (xs : List Interval) (before : List Span) → Each Fits xs → Each (λ (x : Interval). m ≤ x.left) xs
      → Pairwise NoLater xs → Reached m es before → EachAfter (Lowest l crossing) before (left_edge_from es xs)
  lowest-from m es [] before h i o f = tt
  lowest-from m es (x ∷ xs) before h i o f = (
    low,
    lowest-from x.left (step es x) xs (span_on es x ∷ before) h.1 o.0 o.1 (reached-step m es x before h.0 i.0 f),
  )
    where
      low : Lowest l crossing before (span_on es x)
      low t p q = go x.counts refl t p q
        where
          go : (b : Bool) → x.counts ≡ b → (t : ℕ) → 1 ≤ t → t < cond b (suc (passed es x.left)) 0
              → any (λ (y : Span). eqb y.track t && crossing y.net x.left) before ≡ true
          go false e t p q = absurd (omega arith)
          go true e zero p q = absurd (omega arith)
          go true e (suc t) p q =
              let (first, order, last) = h.0.within e in
              f t x.left i.0 first (omega arith) (passed-reach es x.left t (omega arith))

  module _ (xs : List Interval) (h : Each Fits xs) where
    pub apart-edge : Pairwise (Clear l crossing) (left_edge xs)
    apart-edge = apart_from [] xs h

    pub zero-edge : Each (Zero l crossing) (left_edge xs)
    zero-edge = each_span Fits (Zero l crossing) zero_one [] xs h

    module _ (o : Pairwise NoLater xs) where
      pub lowest-edge : EachAfter (Lowest l crossing) [] (left_edge xs)
      lowest-edge = lowest-from 0 [] xs [] h (each_all _ xs (λ x. omega arith)) o (λ k c i p q r. absurd (omega arith))

      pub routes-edge : Routes l crossing (map (λ (x : Interval). x.net) xs) (left_edge xs)
      routes-edge = record {
        nets = nets_same [] xs;
        number =
            number l crossing (left_edge xs) apart-edge zero-edge lowest-edge (each_span Fits (Begins l crossing) begins_one [] xs h)
            ∙ ap (λ (ns : List ℕ). maximum_to l (λ (c : ℕ). weight_of (λ (n : ℕ). crossing n c) ns)) (nets_same [] xs);
        used = used l crossing (left_edge xs) lowest-edge;
        apart = apart-edge;
        zero = zero-edge;
        lowest = lowest-edge;
      }
