-- Why the tracks are as many as the most nets in one column. Not fewer: the nets of a column are on different tracks. Not more: on each
-- track below a net's own, another crosses its left end. For the same reason no track up to the greatest is left out.
-- Assumes nothing.
use Rattle.std.proofs.Common.{◌≡◌, ℕ, zero, suc, ◌+◌, ◌<◌, ◌≤◌, max, Bool, true, false, cond, ◌&&◌, ◌||◌, eqb, ltb, leb, List, [], ◌∷◌, map, sym, refl, ap, ◌∙◌, true≢false, arith, ltb-false, ltb-true, eqb-true, le-leb, leb-false, leb-true}
use Rattle.std.proofs.Math.Bool.{or-true}
use Rattle.std.proofs.lemmas.Bool.{and_parts, lt-leb, eqb-false}
use Rattle.channel.specs.Density.{any, weight_of, maximum_to}
use Rattle.left_edge.specs.declared.Span.{Span}
use Rattle.left_edge.specs.Lists.{Each, Pairwise, EachAfter}
use Rattle.left_edge.specs.Method.{greatest}
use Rattle.left_edge.specs.Routes.{Clear, Zero, Lowest}
use Rattle.left_edge.proofs.Lists.{each_map, each_all, any_weaker}

-- how many of a list a test holds of
abbrev count : {A : Type 0} → (A → Bool) → List A → ℕ
count f [] = 0
count f (x ∷ xs) = cond (f x) 1 0 + count f xs

count_some : {A : Type 0} (f : A → Bool) (xs : List A) → any f xs ≡ true → 1 ≤ count f xs
count_some f [] h = absurd (true≢false (sym h))
count_some f (x ∷ xs) h = go (f x) h (count_some f xs)
  where
    go : (b : Bool) → (b || any f xs) ≡ true → (any f xs ≡ true → 1 ≤ count f xs) → 1 ≤ cond b 1 0 + count f xs
    go true h r = omega arith
    go false h r = omega (arith, r h)

count_less : {A : Type 0} (f g : A → Bool) (xs : List A) → Each (λ (x : A). f x ≡ true → g x ≡ true) xs → count f xs ≤ count g xs
count_less f g [] h = omega arith
count_less f g (x ∷ xs) h = go (f x) refl (count_less f g xs h.1)
  where
    go : (b : Bool) → f x ≡ b → count f xs ≤ count g xs → cond b 1 0 + count f xs ≤ cond (g x) 1 0 + count g xs
    go true q r = rw (h.0 q) (omega arith)
    go false q r = omega arith

count_none : {A : Type 0} (f : A → Bool) (xs : List A) → Each (λ (x : A). f x ≡ false) xs → count f xs ≡ 0
count_none f [] h = refl
count_none f (x ∷ xs) h = rw (h.0, count_none f xs h.1)

-- the greatest over the columns
maximum_at : (l c : ℕ) (f : ℕ → ℕ) → 1 ≤ c → c ≤ l → f c ≤ maximum_to l f
maximum_at zero c f h k = absurd (omega arith)
maximum_at (suc l) c f h k = go (leb c l) refl (maximum_at l c f h)
  where
    go : (b : Bool) → leb c l ≡ b → (c ≤ l → f c ≤ maximum_to l f) → f c ≤ max (f (suc l)) (maximum_to l f)
    go true q r = omega (arith, r (leb-true c l q))
    go false q r = let last : c ≡ suc l = omega (arith, leb-false c l q) in omega (arith, ap f last)

maximum_least : (l n : ℕ) (f : ℕ → ℕ) → ((c : ℕ) → 1 ≤ c → c ≤ l → f c ≤ n) → maximum_to l f ≤ n
maximum_least zero n f h = omega arith
maximum_least (suc l) n f h =
    omega (arith, h (suc l) (omega arith) (omega arith), maximum_least l n f (λ c p q. h c p (omega arith)))

-- no track of a list is above its greatest
below-greatest : (n : ℕ) (xs : List Span) → greatest xs ≤ n → Each (λ (x : Span). x.track ≤ n) xs
below-greatest n [] h = tt
below-greatest n (x ∷ xs) h = (omega arith, below-greatest n xs (omega arith))

module _ (l : ℕ) (crossing : ℕ → ℕ → Bool) where
  -- a span with a track crosses its left end
  abbrev pub Begins : Span → Type 0
  Begins x = 1 ≤ x.track → (1 ≤ x.left) × (x.left ≤ l) × (crossing x.net x.left ≡ true)

  -- a span crosses column c; it does, and is on track t; it does, and is on a track up to t
  abbrev over : ℕ → Span → Bool
  over c x = crossing x.net c

  abbrev on : ℕ → ℕ → Span → Bool
  on c t x = eqb x.track t && over c x

  abbrev up_to : ℕ → ℕ → Span → Bool
  up_to c t x = leb x.track t && over c x

  count-over : (c : ℕ) (xs : List Span) → weight_of (λ (n : ℕ). crossing n c) (map (λ (x : Span). x.net) xs) ≡ count (over c) xs
  count-over c [] = refl
  count-over c (x ∷ xs) = ap (λ (k : ℕ). cond (over c x) 1 0 + k) (count-over c xs)

  -- those up to a track are those up to the track before it and those on it
  count_track : (c t : ℕ) (xs : List Span) → count (up_to c (suc t)) xs ≡ count (up_to c t) xs + count (on c (suc t)) xs
  count_track c t [] = refl
  count_track c t (x ∷ xs) = go (leb x.track t) refl (eqb x.track (suc t)) refl (count_track c t xs)
    where
      go : (a : Bool) → leb x.track t ≡ a → (b : Bool) → eqb x.track (suc t) ≡ b
          → count (up_to c (suc t)) xs ≡ count (up_to c t) xs + count (on c (suc t)) xs
          → cond (up_to c (suc t) x) 1 0 + count (up_to c (suc t)) xs
          ≡ cond (a && over c x) 1 0 + count (up_to c t) xs + (cond (b && over c x) 1 0 + count (on c (suc t)) xs)
      go true p true q r = absurd (omega (arith, leb-true x.track t p, eqb-true x.track (suc t) q))
      go true p false q r = rw (le-leb x.track (suc t) (omega (arith, leb-true x.track t p))) (omega arith)
      go false p true q r = rw (le-leb x.track (suc t) (omega (arith, eqb-true x.track (suc t) q))) (omega arith)
      go false p false q r =
          let no = eqb-false x.track (suc t) q in
          rw (lt-leb x.track (suc t) (omega (arith, leb-false x.track t p))) (omega arith)

  -- with one on each track, as many as the tracks or more; with one at most, and none on track 0, no more
  count-filled : (c t : ℕ) (xs : List Span) → ((k : ℕ) → 1 ≤ k → k ≤ t → any (on c k) xs ≡ true) → t ≤ count (up_to c t) xs
  count-filled c zero xs h = omega arith
  count-filled c (suc t) xs h =
      omega (
        arith,
        count_track c t xs,
        count_some (on c (suc t)) xs (h (suc t) (omega arith) (omega arith)),
        count-filled c t xs (λ k p q. h k p (omega arith)),
      )

  count_apart : (c t : ℕ) (xs : List Span) → count (up_to c 0) xs ≡ 0 → ((k : ℕ) → count (on c k) xs ≤ 1) → count (up_to c t) xs ≤ t
  count_apart c zero xs none h = omega arith
  count_apart c (suc t) xs none h = omega (arith, count_track c t xs, h (suc t), count_apart c t xs none h)

  -- not more than n, where no column has more than n of these and those before them
  not_more : (n : ℕ) (before xs : List Span) → EachAfter (Lowest l crossing) before xs → Each Begins xs
      → ((c : ℕ) → 1 ≤ c → c ≤ l → count (over c) before + count (over c) xs ≤ n) → greatest xs ≤ n
  not_more n before [] low begins h = omega arith
  not_more n before (x ∷ xs) low begins h =
      omega (arith, track (leb 1 x.track) refl, not_more n (x ∷ before) xs low.1 begins.1 (λ c p q. omega (arith, h c p q)))
    where
      -- on each track up to its own, one crosses its left end
      filled : crossing x.net x.left ≡ true → (k : ℕ) → 1 ≤ k → k ≤ x.track → any (on x.left k) (x ∷ before) ≡ true
      filled own k p q = go (eqb x.track k) refl
        where
          go : (b : Bool) → eqb x.track k ≡ b → (b && over x.left x || any (on x.left k) before) ≡ true
          go true e = rw own
          go false e = let no = eqb-false x.track k e in low.0 k p (omega arith)

      track : (b : Bool) → leb 1 x.track ≡ b → x.track ≤ n
      track false e = omega (arith, leb-false 1 x.track e)
      track true e =
          let (first, last, own) = begins.0 (leb-true 1 x.track e) in
          let c : ℕ = x.left in
          omega (
            arith,
            count-filled c x.track (x ∷ before) (filled own),
            count_less (up_to c x.track) (over c) (x ∷ before)
                (each_all _ (x ∷ before) (λ y q. (and_parts (leb y.track x.track) (over c y) q).1)),
            h c first last,
          )

  -- not fewer: of those that cross a column, one on each track
  one_each : (c : ℕ) → 1 ≤ c → c ≤ l → (k : ℕ) (xs : List Span) → Pairwise (Clear l crossing) xs → count (on c k) xs ≤ 1
  one_each c p q k [] h = omega arith
  one_each c p q k (x ∷ xs) h = go (on c k x) refl (one_each c p q k xs h.1)
    where
      go : (b : Bool) → on c k x ≡ b → count (on c k) xs ≤ 1 → cond b 1 0 + count (on c k) xs ≤ 1
      go false e r = omega arith
      go true e r = omega (arith, count_none (on c k) xs (each_map (Clear l crossing x) _ xs other h.0))
        where
          own : (eqb x.track k ≡ true) × (over c x ≡ true)
          own = and_parts (eqb x.track k) (over c x) e

          other : (y : Span) → Clear l crossing x y → on c k y ≡ false
          other y clear = at (eqb y.track k) refl
            where
              at : (b : Bool) → eqb y.track k ≡ b → (b && over c y) ≡ false
              at false d = refl
              at true d = rw own.1 at (clear (eqb-true x.track k own.0 ∙ sym (eqb-true y.track k d)) c p q)

  not_fewer : (xs : List Span) → Pairwise (Clear l crossing) xs → Each (Zero l crossing) xs → (c : ℕ) → 1 ≤ c → c ≤ l
      → count (over c) xs ≤ greatest xs
  not_fewer xs apart idle c p q =
      omega (
        arith,
        count_less (over c) (up_to c (greatest xs)) xs
            (each_map _ _ xs (λ x h e. rw (le-leb x.track (greatest xs) h) e) (below-greatest (greatest xs) xs (omega arith))),
        count_apart c (greatest xs) xs (count_none (up_to c 0) xs (each_map (Zero l crossing) _ xs none idle))
            (λ k. one_each c p q k xs apart),
      )
    where
      none : (x : Span) → Zero l crossing x → up_to c 0 x ≡ false
      none x h = go (leb x.track 0) refl
        where
          go : (b : Bool) → leb x.track 0 ≡ b → (b && over c x) ≡ false
          go false e = refl
          go true e = h.0 (omega (arith, leb-true x.track 0 e)) c p q

  pub number : (xs : List Span) → Pairwise (Clear l crossing) xs → Each (Zero l crossing) xs → EachAfter (Lowest l crossing) [] xs
      → Each Begins xs → greatest xs ≡ maximum_to l (λ (c : ℕ). weight_of (λ (n : ℕ). crossing n c) (map (λ (x : Span). x.net) xs))
  number xs apart idle low begins =
      let f : ℕ → ℕ = λ (c : ℕ). weight_of (λ (n : ℕ). crossing n c) (map (λ (x : Span). x.net) xs) in
      omega (
        arith,
        maximum_least l (greatest xs) f (λ c p q. omega (arith, count-over c xs, not_fewer xs apart idle c p q)),
        not_more (maximum_to l f) [] xs low begins (λ c p q. omega (arith, count-over c xs, maximum_at l c f p q)),
      )

  -- a track up to the greatest of a list is used in it or before it
  used_from : (t : ℕ) (before xs : List Span) → EachAfter (Lowest l crossing) before xs → 1 ≤ t → t ≤ greatest xs
      → (any (λ (y : Span). eqb y.track t) before || any (λ (y : Span). eqb y.track t) xs) ≡ true
  used_from t before [] low p q = absurd (omega arith)
  used_from t before (x ∷ xs) low p q = go (eqb x.track t) refl (ltb t x.track) refl (used_from t (x ∷ before) xs low.1 p)
    where
      past : Bool
      past = any (λ (y : Span). eqb y.track t) before

      rest : Bool
      rest = any (λ (y : Span). eqb y.track t) xs

      go : (a : Bool) → eqb x.track t ≡ a → (b : Bool) → ltb t x.track ≡ b → (t ≤ greatest xs → (a || past || rest) ≡ true)
          → (past || (a || rest)) ≡ true
      go true d b e r = or-true past
      go false d true e r =
          rw
          (any_weaker (λ (y : Span). eqb y.track t && over x.left y) (λ (y : Span). eqb y.track t) before
          (λ y h. (and_parts (eqb y.track t) (over x.left y) h).0) (low.0 t p (ltb-true t x.track e)))
      go false d false e r = let no = eqb-false x.track t d in r (omega (arith, ltb-false t x.track e))

  pub used : (xs : List Span) → EachAfter (Lowest l crossing) [] xs → (t : ℕ) → t < greatest xs
      → any (λ (x : Span). eqb x.track (suc t)) xs ≡ true
  used xs low t h = used_from (suc t) [] xs low (omega arith) h
