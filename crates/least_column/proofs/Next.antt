-- The next column of a set is the least of it above the given one; and what that makes of the least column, letter by letter.
-- Assumes nothing.
use Rattle.std.proofs.Common.{◌≡◌, ℕ, zero, suc, min, ◌≤◌, ◌<◌, Bool, true, false, cond, ◌&&◌, leb, ltb, refl, le_trans, arith, leb-true, leb-false, le-leb, ltb-true}
use Rattle.std.proofs.lemmas.Bool.{and_from, and_parts, false≢true, lt-leb}
use Rattle.std.proofs.lemmas.Bool.Decides.{nat_tests}
use Rattle.channel.specs.Sheet.{Sheet}
use Rattle.channel.specs.Word.{Letter, has_top, has_bottom}
use Rattle.channel.specs.Word.Letter.{empty, top, bottom, both}
use Rattle.channel.specs.Cut.{load, occupied}
use Rattle.reach.proofs.Rightmost.{more}
use Rattle.least_column.specs.LeastColumn.{allowed_to, next_column, with_letter, top_next, bottom_next, both_next, least_bottoms, least_tops, least_column}

-- the next column above m is l + 1, or one of the set above m, up to l
pub next_case :
    (P : ℕ → Type 0) (l : ℕ) (f : ℕ → Bool) (m : ℕ) → P (suc l) → ((k : ℕ) → m < k → k ≤ l → f k ≡ true → P k)
    → P (next_column l f m)
unfolding next_column
next_case P zero f m p q = p
next_case P (suc l) f m p q =
    next_case (λ (k : ℕ). P (cond (leb k l) k (cond (ltb m (suc l) && f (suc l)) (suc l) (suc (suc l))))) l f m
    (rw (lt-leb (suc l) l (omega arith)) (last (ltb m (suc l) && f (suc l)) refl))
    (λ k h n e. rw (le-leb k l n) (q k h (omega arith) e))
  where
    last : (t : Bool) → (ltb m (suc l) && f (suc l)) ≡ t → P (cond t (suc l) (suc (suc l)))
    last true e = let (a, b) = and_parts _ _ e in q (suc l) (ltb-true m (suc l) a) (omega arith) b
    last false e = p

-- and no greater than any such
pub next_low : (l : ℕ) (f : ℕ → Bool) (m k : ℕ) → m < k → k ≤ l → f k ≡ true → next_column l f m ≤ k
unfolding next_column
next_low zero f m k h n e = absurd (omega arith)
next_low (suc l) f m k h n e = decide (leb k l) refl (next_low l f m k h)
  where
    decide :
        (t : Bool) → leb k l ≡ t → (k ≤ l → f k ≡ true → next_column l f m ≤ k)
        → cond (leb (next_column l f m) l) (next_column l f m) (cond (ltb m (suc l) && f (suc l)) (suc l) (suc (suc l))) ≤ k
    decide true q low =
        let less : next_column l f m ≤ k = low (leb-true k l q) e in
        rw (le-leb (next_column l f m) l (omega (arith, leb-true k l q))) less
    decide false q low = let last : k ≡ suc l = omega (arith, leb-false k l q) in grind (arith, nat_tests)

-- column c may hold the letter a with k top and l bottom pins left of it, as far as sets and loads go
pub record Allowed (s : Sheet) (d : ℕ) (a : Letter) (k l c : ℕ) : Type 0 where
  pub top : has_top a ≡ true → allowed_to s.top (suc k) c ≡ true
  pub bottom : has_bottom a ≡ true → allowed_to s.bottom (suc l) c ≡ true
  pub within : occupied a ≡ true → load s a (more (has_top a) k) (more (has_bottom a) l) ≤ d

module _ (s : Sheet) (d : ℕ) where
  -- a letter whose load is within the bound gives the next column of its set
  letter_low :
      (a : Letter) (i j : ℕ) (f : ℕ → Bool) (m c : ℕ) → load s a i j ≤ d → m < c → c ≤ s.columns → f c ≡ true
      → with_letter s d a i j f m ≤ c
  unfolding with_letter
  letter_low a i j f m c b h n e = rw (le-leb (load s a i j) d b) (next_low s.columns f m c h n e)

  letter_case :
      (P : ℕ → Type 0) (a : Letter) (i j : ℕ) (f : ℕ → Bool) (m : ℕ) → P (suc s.columns)
      → (load s a i j ≤ d → (c : ℕ) → m < c → c ≤ s.columns → f c ≡ true → P c)
      → P (with_letter s d a i j f m)
  unfolding with_letter
  letter_case P a i j f m p q = decide (leb (load s a i j) d) refl
    where
      decide : (t : Bool) → leb (load s a i j) d ≡ t → P (cond t (next_column s.columns f m) (suc s.columns))
      decide true h = next_case P s.columns f m p (q (leb-true (load s a i j) d h))
      decide false h = p

  -- no pins at all
  pub least-none : least_column s d 0 0 ≡ 0
  unfolding least_column least_bottoms
  least-none = refl

  -- the least column is no greater than that with any letter
  least-top : (k l : ℕ) → least_column s d (suc k) l ≤ top_next s d (suc k) l (least_column s d k l)
  unfolding least_column least_tops
  least-top k zero = omega arith
  least-top k (suc l) = omega arith

  least-bottom : (k l : ℕ) → least_column s d k (suc l) ≤ bottom_next s d k (suc l) (least_column s d k l)
  unfolding least_column least_bottoms least_tops
  least-bottom zero l = omega arith
  least-bottom (suc k) l = omega arith

  least-both : (k l : ℕ) → least_column s d (suc k) (suc l) ≤ both_next s d (suc k) (suc l) (least_column s d k l)
  unfolding least_column least_tops
  least-both k l = omega arith

  -- so it is no greater than a column, right of the least one without them, that may hold the letter of the last pins
  pub least_low :
      (a : Letter) (k l c : ℕ) → Allowed s d a k l c → least_column s d k l < c → c ≤ s.columns
      → least_column s d (more (has_top a) k) (more (has_bottom a) l) ≤ c
  least_low empty k l c r h n = omega arith
  least_low top k l c r h n =
      le_trans (least-top k l) (letter_low top (suc k) l _ _ c (r.within refl) h n (r.top refl))
  least_low bottom k l c r h n =
      le_trans (least-bottom k l) (letter_low bottom k (suc l) _ _ c (r.within refl) h n (r.bottom refl))
  least_low both k l c r h n =
      le_trans (least-both k l) (letter_low both (suc k) (suc l) _ _ c (r.within refl) h n (and_from _ _ (r.top refl) (r.bottom refl)))

  -- induction over the letters: what holds with no pins and of none, and is kept by one letter more, further right, holds of it
  pub least_induction :
      (P : ℕ → ℕ → ℕ → Type 0) → P 0 0 0 → ((i j : ℕ) → P i j (suc s.columns))
      → ((a : Letter) (k l m c : ℕ) → P k l m → Allowed s d a k l c → m < c → c ≤ s.columns
      → P (more (has_top a) k) (more (has_bottom a) l) c)
      → (i j : ℕ) → P i j (least_column s d i j)
  unfolding least_column least_bottoms least_tops
  least_induction P start none keeps = go
    where
      with_top : (k l m : ℕ) → P k l m → P (suc k) l (top_next s d (suc k) l m)
      with_top k l m p =
          letter_case (P (suc k) l) top (suc k) l _ m (none (suc k) l)
          (λ b c h n e. keeps top k l m c p (record { top = λ q. e; bottom = λ q. absurd (false≢true q); within = λ q. b }) h n)

      with_bottom : (k l m : ℕ) → P k l m → P k (suc l) (bottom_next s d k (suc l) m)
      with_bottom k l m p =
          letter_case (P k (suc l)) bottom k (suc l) _ m (none k (suc l))
          (λ b c h n e. keeps bottom k l m c p (record { top = λ q. absurd (false≢true q); bottom = λ q. e; within = λ q. b }) h n)

      with_both : (k l m : ℕ) → P k l m → P (suc k) (suc l) (both_next s d (suc k) (suc l) m)
      with_both k l m p =
          letter_case (P (suc k) (suc l)) both (suc k) (suc l) _ m (none (suc k) (suc l))
          (λ b c h n e. let (x, y) = and_parts _ _ e in
          keeps both k l m c p (record { top = λ q. x; bottom = λ q. y; within = λ q. b }) h n)

      -- a property of both has the lesser
      lesser : (i j a b : ℕ) → P i j a → P i j b → P i j (min a b)
      lesser i j a b p q = decide (leb a b) refl
        where
          decide : (t : Bool) → leb a b ≡ t → P i j (min a b)
          decide true h = let same : min a b ≡ a = omega (arith, leb-true a b h) in rw same p
          decide false h = let same : min a b ≡ b = omega (arith, leb-false a b h) in rw same q

      go : (i j : ℕ) → P i j (least_column s d i j)
      go zero zero = start
      go zero (suc j) = with_bottom zero j _ (go zero j)
      go (suc i) zero = with_top i zero _ (go i zero)
      go (suc i) (suc j) =
          lesser (suc i) (suc j) _ _ (with_top i (suc j) _ (go i (suc j)))
          (lesser (suc i) (suc j) _ _ (with_bottom (suc i) j _ (go (suc i) j)) (with_both i j _ (go i j)))

  -- it is a column, or the number behind the channel's last
  pub least_bound : (i j : ℕ) → least_column s d i j ≤ suc s.columns
  least_bound = least_induction (λ i j x. x ≤ suc s.columns) (omega arith) (λ i j. omega arith) (λ a k l m c p r h n. omega arith)

-- under a greater bound it is no greater
pub least_mono : (s : Sheet) (d e : ℕ) → d ≤ e → (i j : ℕ) → least_column s e i j ≤ least_column s d i j
least_mono s d e h =
    least_induction s d (λ i j x. least_column s e i j ≤ x) (omega (arith, least-none s e)) (least_bound s e)
    (λ a k l m c p r b n. least_low s e a k l c
    (record { top = r.top; bottom = r.bottom; within = λ q. le_trans (r.within q) h }) (omega arith) n)
