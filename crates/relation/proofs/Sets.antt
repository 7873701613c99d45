-- The numbers that lead to one of a set, gone through from one number of the set to the next; and where walks start, as a set.
-- Assumes nothing.
use Rattle.std.proofs.Common.{◌≡◌, ℕ, zero, suc, ◌+◌, ◌^◌, List, ◌≤◌, ◌<◌, Bool, true, false, ◌&&◌, ◌||◌, ◌⊎◌, inl, inr, arith, sym, ◌∙◌, ap, ap₂, ltb, leb, lt-ltb, ltb-true, le-leb}
use Rattle.std.proofs.lemmas.Bool.{and_from, and_parts, and_right, cases_lt}
use Rattle.std.specs.Cmp.{both_ways}
use Rattle.std.proofs.Math.Bool.{and-true}
use Rattle.channel.specs.Below.{any_below}
use Rattle.channel.proofs.Below.{any_below-from, any_below_to, any_below-none}
use Rattle.bits.specs.Bits.{bit_of, in_word}
use Rattle.bits.proofs.Laws.{some_bit, bit_zero}
use Rattle.relation.specs.Relation.{starts, longest, leads_in}
use Rattle.relation.proofs.Longest.{longest-step, longest_stays, longest_settled}

-- numbers that fail a test add nothing
skipped : (m n : ℕ) (f : ℕ → Bool) → m ≤ n → ((k : ℕ) → m ≤ k → k < n → f k ≡ false) → any_below n f ≡ any_below m f
skipped m zero f l h = let same : 0 ≡ m = omega arith in ap (λ (k : ℕ). any_below k f) same
skipped m (suc n) f l h = go (cases_lt n m) (λ p. skipped m n f p (λ k q r. h k q (omega arith)))
  where
    go : (n < m) ⊎ (m ≤ n) → (m ≤ n → any_below n f ≡ any_below m f) → any_below (suc n) f ≡ any_below m f
    go (inl p) rest = let same : suc n ≡ m = omega arith in ap (λ (k : ℕ). any_below k f) same
    go (inr p) rest = rw (h n p (omega arith)) (rest p)

-- a leads to b, which is in a set
abbrev to_set : List ℕ → ℕ → ℕ → ℕ → Bool
to_set words set a b = leads_in words a b && bit_of set b

-- The numbers of a set from `next` on, by their word `rest`, and the lowest of them
module _ (words : List ℕ) (set next from rest low : ℕ) (l : low ≤ 64)
    (behind : (n : ℕ) → n < 64 → bit_of from n ≡ leb next n) (both : (n : ℕ) → bit_of rest n ≡ (bit_of set n && bit_of from n))
    (under : (n : ℕ) → n < low → bit_of rest n ≡ false) where
  kept : (k : ℕ) → next ≤ k → k < 64 → bit_of rest k ≡ bit_of set k
  kept k p h = both k ∙ ap (λ (b : Bool). bit_of set k && b) (behind k h ∙ le-leb next k p) ∙ and-true (bit_of set k)

  passed : (a : ℕ) → next ≤ low → any_below low (to_set words set a) ≡ any_below next (to_set words set a)
  passed a p = skipped next low (to_set words set a) p (λ k q h. and_right _ _ (sym (kept k q (omega arith)) ∙ under k h))

  pub none-left : next ≤ 64 → low ≡ 64 → (a : ℕ) → any_below next (to_set words set a) ≡ in_word (to_set words set a)
  unfolding in_word
  none-left p e a = sym (rw e at (passed a (omega arith)))

  pub one_passed :
      next ≤ low → low < 64 → bit_of rest low ≡ true → (a : ℕ)
      → (leads_in words a low || any_below next (to_set words set a)) ≡ any_below (low + 1) (to_set words set a)
  one_passed p h e a =
      let last : suc low ≡ low + 1 = omega arith in
      ap₂ (λ (x y : Bool). x || y)
      (sym (ap (λ (b : Bool). leads_in words a low && b) (sym (kept low p h) ∙ e) ∙ and-true (leads_in words a low)))
      (sym (passed a p))
      ∙ ap (λ (k : ℕ). any_below k (to_set words set a)) last

-- What leads to a number where a walk of k steps starts, below n, is where one of k + 1 starts. The word `next` holds these
module _ (words : List ℕ) (n k set found next : ℕ) (l : n ≤ 64)
    (is : (a : ℕ) → a < 64 → bit_of set a ≡ (ltb a n && starts (leads_in words) n k a))
    (before : (a : ℕ) → bit_of found a ≡ in_word (λ (b : ℕ). leads_in words a b && bit_of set b)) where
  abbrev to_walk : ℕ → ℕ → Bool
  to_walk a b = leads_in words a b && starts (leads_in words) n k b

  step : (a : ℕ) → in_word (to_set words set a) ≡ starts (leads_in words) n (suc k) a
  unfolding in_word starts
  step a = both_ways _ _ there back
    where
      there : any_below 64 (to_set words set a) ≡ true → any_below n (to_walk a) ≡ true
      there h =
          let (b, s, t) = any_below_to 64 (to_set words set a) h in
          let (p, q) = and_parts (leads_in words a b) (bit_of set b) t in
          let (u, v) = and_parts (ltb b n) (starts (leads_in words) n k b) (sym (is b s) ∙ q) in
          any_below-from n (to_walk a) b (ltb-true b n u) (and_from _ _ p v)

      back : any_below n (to_walk a) ≡ true → any_below 64 (to_set words set a) ≡ true
      back h =
          let (b, s, t) = any_below_to n (to_walk a) h in
          let (p, q) = and_parts (leads_in words a b) (starts (leads_in words) n k b) t in
          any_below-from 64 (to_set words set a) b (omega arith) (and_from _ _ p (is b (omega arith) ∙ and_from _ _ (lt-ltb b n s) q))

  pub one-step :
      (all : ℕ) → ((a : ℕ) → a < 64 → bit_of all a ≡ ltb a n) → ((a : ℕ) → bit_of next a ≡ (bit_of all a && bit_of found a))
      → (a : ℕ) → a < 64 → bit_of next a ≡ (ltb a n && starts (leads_in words) n (suc k) a)
  one-step all below both a h = both a ∙ ap₂ (λ (x y : Bool). x && y) (below a h) (before a ∙ step a)

-- the word of the numbers below n where walks of one step more than k start
module _ (leads : ℕ → ℕ → Bool) (n k word : ℕ) (is : (a : ℕ) → a < 64 → bit_of word a ≡ (ltb a n && starts leads n (suc k) a)) where
  pub walk-goes : word < 2 ^ 64 → (word ≡ 0 → ⊥) → longest leads n (k + 1) ≡ k + 1
  walk-goes h some =
      let (a, l, e) = some_bit word h some in
      let (p, q) = and_parts (ltb a n) (starts leads n (suc k) a) (sym (is a l) ∙ e) in
      let next : suc k ≡ k + 1 = omega arith in
      rw next at (longest-step leads n k a (ltb-true a n p) q)

  -- the same numbers as of k steps, and some
  pub walk-settles :
      (set : ℕ) → n ≤ 64 → ((a : ℕ) → a < 64 → bit_of set a ≡ (ltb a n && starts leads n k a)) → k ≤ n → word < 2 ^ 64
      → (word ≡ 0 → ⊥) → word ≡ set → n ≡ longest leads n n
  walk-settles set h before l fits some same =
      let (a, i, e) = some_bit set (omega arith) (λ z. some (same ∙ z)) in
      let (p, q) = and_parts (ltb a n) (starts leads n k a) (sym (before a i) ∙ e) in
      sym
      (longest_settled leads n k a l
      (λ b j. rw (lt-ltb b n j) at (sym (is b (omega arith)) ∙ ap (λ (w : ℕ). bit_of w b) same ∙ before b (omega arith)))
      (ltb-true a n p) q)

  pub walk-ends : n ≤ 64 → k ≤ n → word ≡ 0 → longest leads n k ≡ k → k ≡ longest leads n n
  walk-ends h l none e =
      sym (longest_stays leads n k n l (any_below-none n (starts leads n (suc k)) (λ a p. go a p (starts leads n (suc k) a) (is a (omega arith)))) ∙ e)
    where
      go : (a : ℕ) → a < n → (t : Bool) → bit_of word a ≡ (ltb a n && t) → t ≡ false
      go a p t q = sym (rw (lt-ltb a n p) at q) ∙ ap (λ (w : ℕ). bit_of w a) none ∙ bit_zero a
