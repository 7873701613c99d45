-- How long walks are. Where no number is reached from itself, fewer are reached with each step, so that no walk has as many steps as there
-- are numbers. Where one is, walks of any length start at it.
-- Assumes nothing.
use Rattle.std.proofs.Common.{◌≡◌, ℕ, zero, suc, ◌≤◌, ◌<◌, ◌↔◌, Bool, true, false, cond, ◌&&◌, ◌⊎◌, inl, inr, arith, refl, sym, ap, ◌∙◌, true≢false}
use Rattle.std.proofs.lemmas.Bool.{and_from, and_parts, cases_lt, cond_both, false_from_ne_true}
use Rattle.channel.specs.Below.{any_below}
use Rattle.channel.proofs.Below.{any_below_cong, any_below-from, any_below_to, any_below-none}
use Rattle.relation.specs.Relation.{reaches, starts, longest}
use Rattle.relation.proofs.Reach.{reaches-step, reaches-through, first-step}

-- how many numbers below n a test holds of
abbrev count : (ℕ → Bool) → ℕ → ℕ
count f zero = 0
count f (suc n) = cond (f n) (suc (count f n)) (count f n)

count_weaker : (f g : ℕ → Bool) (n : ℕ) → ((k : ℕ) → f k ≡ true → g k ≡ true) → count f n ≤ count g n
count_weaker f g zero h = omega arith
count_weaker f g (suc n) h = go (f n) refl (count_weaker f g n h)
  where
    go : (b : Bool) → f n ≡ b → count f n ≤ count g n → cond b (suc (count f n)) (count f n) ≤ count g (suc n)
    go true e r = rw (h n e) (omega (arith, r))
    go false e r = cond_both (g n) _ _ (λ (m : ℕ). count f n ≤ m) (λ _. omega (arith, r)) (λ _. r)

-- a number more below n
count_more :
    (f g : ℕ → Bool) (n x : ℕ) → x < n → f x ≡ false → g x ≡ true → ((k : ℕ) → f k ≡ true → g k ≡ true) → count f n < count g n
count_more f g zero x l e d h = absurd (omega arith)
count_more f g (suc n) x l e d h = go (cases_lt x n) (λ p. count_more f g n x p e d h)
  where
    weaker : count f n ≤ count g n
    weaker = count_weaker f g n h

    go : (x < n) ⊎ (n ≤ x) → (x < n → count f n < count g n) → count f (suc n) < count g (suc n)
    go (inl p) rest = at (f n) refl
      where
        at : (b : Bool) → f n ≡ b → cond b (suc (count f n)) (count f n) < count g (suc n)
        at true q = rw (h n q) (omega (arith, rest p))
        at false q = cond_both (g n) _ _ (λ (m : ℕ). count f n < m) (λ _. omega (arith, rest p)) (λ _. rest p)
    go (inr p) rest = let last : x ≡ n = omega arith in rw (rw last at e, rw last at d) (omega (arith, weaker))

count_all : (f : ℕ → Bool) (n : ℕ) → count f n ≤ n
count_all f zero = omega arith
count_all f (suc n) = cond_both (f n) _ _ (λ (m : ℕ). m ≤ suc n) (λ _. omega (arith, count_all f n)) (λ _. omega (arith, count_all f n))

module _ (leads : ℕ → ℕ → Bool) (n : ℕ) where
  -- a first step, and the walk behind it
  pub starts-parts : (k a : ℕ) → starts leads n (suc k) a ≡ true → (b : ℕ) × (b < n) × (leads a b ≡ true) × (starts leads n k b ≡ true)
  unfolding starts
  starts-parts k a h =
      let (b, l, e) = any_below_to n _ h in
      let (p, q) = and_parts _ _ e in
      (b, l, p, q)

  pub starts-step : (k a b : ℕ) → b < n → leads a b ≡ true → starts leads n k b ≡ true → starts leads n (suc k) a ≡ true
  unfolding starts
  starts-step k a b l p q = any_below-from n (λ (x : ℕ). leads a x && starts leads n k x) b l (and_from _ _ p q)

  pub starts-zero : (a : ℕ) → starts leads n 0 a ≡ true
  unfolding starts
  starts-zero a = refl

  -- where a walk starts, one of a step less does
  starts_less : (k a : ℕ) → starts leads n (suc k) a ≡ true → starts leads n k a ≡ true
  starts_less zero a h = starts-zero a
  starts_less (suc k) a h = go (starts-parts (suc k) a h) (starts_less k)
    where
      go :
          (b : ℕ) × (b < n) × (leads a b ≡ true) × (starts leads n (suc k) b ≡ true)
          → ((b : ℕ) → starts leads n (suc k) b ≡ true → starts leads n k b ≡ true) → starts leads n (suc k) a ≡ true
      go (b, l, p, q) less = starts-step k a b l p (less b q)

  -- where no walk has k steps, none has more
  none_more : (k m : ℕ) → k ≤ m → any_below n (starts leads n k) ≡ false → any_below n (starts leads n m) ≡ false
  none_more k zero l h = ap (λ (j : ℕ). any_below n (starts leads n j)) (omega arith) ∙ h
  none_more k (suc m) l h = go (cases_lt m k) (λ p. none_more k m p h)
    where
      go :
          (m < k) ⊎ (k ≤ m) → (k ≤ m → any_below n (starts leads n m) ≡ false) → any_below n (starts leads n (suc m)) ≡ false
      go (inl p) rest = ap (λ (j : ℕ). any_below n (starts leads n j)) (omega arith) ∙ h
      go (inr p) rest =
          any_below-none n _
          (λ a l. false_from_ne_true _ (λ e. true≢false (sym (any_below-from n _ a l (starts_less m a e)) ∙ rest p)))

  -- then k is the most
  pub longest_stays : (k m : ℕ) → k ≤ m → any_below n (starts leads n (suc k)) ≡ false → longest leads n m ≡ longest leads n k
  unfolding longest
  longest_stays k zero l h = let same : 0 ≡ k = omega arith in ap (longest leads n) same
  longest_stays k (suc m) l h = go (cases_lt m k) (λ p. longest_stays k m p h)
    where
      go : (m < k) ⊎ (k ≤ m) → (k ≤ m → longest leads n m ≡ longest leads n k) → longest leads n (suc m) ≡ longest leads n k
      go (inl p) rest = let same : suc m ≡ k = omega arith in ap (longest leads n) same
      go (inr p) rest = rw (none_more (suc k) (suc m) (omega arith) h) (rest p)

  pub longest-step : (k a : ℕ) → a < n → starts leads n (suc k) a ≡ true → longest leads n (suc k) ≡ suc k
  unfolding longest
  longest-step k a l h = rw (any_below-from n (starts leads n (suc k)) a l h)

  -- some walk is as long
  pub longest-reached : 0 < n → (m : ℕ) → (a : ℕ) × (a < n) × (starts leads n (longest leads n m) a ≡ true)
  unfolding longest
  longest-reached h zero = (0, h, starts-zero 0)
  longest-reached h (suc m) = go (any_below n (starts leads n (suc m))) refl (longest-reached h m)
    where
      go :
          (t : Bool) → any_below n (starts leads n (suc m)) ≡ t → (a : ℕ) × (a < n) × (starts leads n (longest leads n m) a ≡ true)
          → (a : ℕ) × (a < n) × (starts leads n (cond t (suc m) (longest leads n m)) a ≡ true)
      go true e r = any_below_to n _ e
      go false e r = r

  -- and none of up to m steps is longer
  pub longest-most : (m k a : ℕ) → k ≤ m → a < n → starts leads n k a ≡ true → k ≤ longest leads n m
  unfolding longest
  longest-most zero k a l h e = l
  longest-most (suc m) k a l h e = go (any_below n (starts leads n (suc m))) refl (λ p. longest-most m k a p h e)
    where
      go :
          (t : Bool) → any_below n (starts leads n (suc m)) ≡ t → (k ≤ m → k ≤ longest leads n m)
          → k ≤ cond t (suc m) (longest leads n m)
      go true d r = l
      go false d r = by_length (cases_lt m k)
        where
          by_length : (m < k) ⊎ (k ≤ m) → k ≤ longest leads n m
          by_length (inr p) = r p
          by_length (inl p) =
              let last : k ≡ suc m = omega arith in
              absurd (true≢false (sym (any_below-from n (starts leads n (suc m)) a h (rw last at e)) ∙ d))

  pub longest_upper : (m : ℕ) → longest leads n m ≤ m
  unfolding longest
  longest_upper zero = omega arith
  longest_upper (suc m) =
      cond_both (any_below n (starts leads n (suc m))) (suc m) (longest leads n m) (λ (k : ℕ). k ≤ suc m) (λ _. omega arith)
      (λ _. omega (arith, longest_upper m))

  -- where walks of one step more start at the same numbers, so do those of any length
  settled :
      (k m : ℕ) → ((a : ℕ) → a < n → starts leads n (suc k) a ≡ starts leads n k a) → k ≤ m → (a : ℕ) → a < n
      → starts leads n m a ≡ starts leads n k a
  unfolding starts
  settled k zero h l a i = let same : 0 ≡ k = omega arith in ap (λ (j : ℕ). starts leads n j a) same
  settled k (suc m) h l a i = go (cases_lt m k) (settled k m h)
    where
      go :
          (m < k) ⊎ (k ≤ m) → (k ≤ m → (b : ℕ) → b < n → starts leads n m b ≡ starts leads n k b)
          → starts leads n (suc m) a ≡ starts leads n k a
      go (inl p) rest = let same : suc m ≡ k = omega arith in ap (λ (j : ℕ). starts leads n j a) same
      go (inr p) rest = any_below_cong n _ _ (λ b j. ap (λ (t : Bool). leads a b && t) (rest p b j)) ∙ h a i

  pub longest_settled :
      (k a : ℕ) → k ≤ n → ((b : ℕ) → b < n → starts leads n (suc k) b ≡ starts leads n k b) → a < n → starts leads n k a ≡ true
      → longest leads n n ≡ n
  longest_settled k a l h i e =
      omega (arith, longest-most n n a (omega arith) i (settled k n h l a i ∙ e), longest_upper n)

  -- walks of any length start where a number is reached that is reached from itself
  pub circle_starts : (c : ℕ) → c < n → reaches leads n c c ≡ true → (k a : ℕ) → reaches leads n a c ≡ true → starts leads n k a ≡ true
  circle_starts c l own zero a h = starts-zero a
  circle_starts c l own (suc k) a h = go (first-step leads n n a c (omega arith) h) (circle_starts c l own k)
    where
      go :
          (d : ℕ) × (leads a d ≡ true) × ((d ≡ c) ⊎ ((d < n) × (reaches leads n d c ≡ true)))
          → ((b : ℕ) → reaches leads n b c ≡ true → starts leads n k b ≡ true) → starts leads n (suc k) a ≡ true
      go (d, e, inl z) rest = starts-step k a c l (rw z at e) (rest c own)
      go (d, e, inr z) rest = starts-step k a d z.0 e (rest d z.1)

  module _ (free : (c : ℕ) → c < n → reaches leads n c c ≡ false) where
    -- a walk has no more steps than numbers are reached from its start
    few-steps : (k a : ℕ) → starts leads n k a ≡ true → k ≤ count (reaches leads n a) n
    few-steps zero a h = omega arith
    few-steps (suc k) a h = go (starts-parts k a h) (few-steps k)
      where
        go :
            (b : ℕ) × (b < n) × (leads a b ≡ true) × (starts leads n k b ≡ true)
            → ((b : ℕ) → starts leads n k b ≡ true → k ≤ count (reaches leads n b) n) → suc k ≤ count (reaches leads n a) n
        go (b, l, p, q) rest =
            let step = reaches-step leads n a b p in
            omega (
              arith,
              rest b q,
              count_more (reaches leads n b) (reaches leads n a) n b l (free b l) step (λ k. reaches-through leads n a b k l step),
            )

    pub short : (k a : ℕ) → a < n → starts leads n k a ≡ true → k < n
    short k a l h =
        omega (
          arith,
          few-steps k a h,
          count_more (reaches leads n a) (λ (x : ℕ). true) n a l (free a l) refl (λ k _. refl),
          count_all (λ (x : ℕ). true) n,
        )

  -- as many steps as numbers exactly where a number is reached from itself
  pub longest-circle : 0 < n → (longest leads n n ≡ n) ↔ ((c : ℕ) × (c < n) × (reaches leads n c c ≡ true))
  longest-circle h = (there, λ w. back w.0 w.1 w.2)
    where
      there : longest leads n n ≡ n → (c : ℕ) × (c < n) × (reaches leads n c c ≡ true)
      there e = go (any_below n (λ (c : ℕ). reaches leads n c c)) refl
        where
          go : (t : Bool) → any_below n (λ (c : ℕ). reaches leads n c c) ≡ t → (c : ℕ) × (c < n) × (reaches leads n c c ≡ true)
          go true d = any_below_to n _ d
          go false d =
              let (a, l, s) = longest-reached h n in
              let free : (c : ℕ) → c < n → reaches leads n c c ≡ false =
              λ c l. false_from_ne_true _ (λ q. true≢false (sym (any_below-from n (λ (x : ℕ). reaches leads n x x) c l q) ∙ d)) in
              absurd (omega (arith, e, short free _ a l s))

      back : (c : ℕ) → c < n → reaches leads n c c ≡ true → longest leads n n ≡ n
      back c l e = omega (arith, longest-most n n c (omega arith) l (circle_starts c l e n c e), longest_upper n)
