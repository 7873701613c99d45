-- A walk whose choices spell a word writes that word's columns.
-- Assumes nothing.
use Rattle.std.proofs.Common.{ℕ, zero, suc, pred, ◌+◌, ◌-◌, ◌≤◌, ◌<◌, ◌≡◌, refl, sym, ◌∙◌, ap, List, [], ◌∷◌, ◌++◌, append-nil, Bool, true, false, cond, ◌&&◌, arith, zero-add, add-zero, sub-one, length, drop, set, take_at, drop-drop, ltb, lt-ltb}
use Rattle.std.proofs.Math.Bool.{and-false}
use Rattle.std.proofs.lemmas.Bool.{false≢true}
use Rattle.std.proofs.Math.Seq.{set_comm, sets, length-sets, sets-eq, drop-append-add}
use Rattle.channel.specs.Word.{Letter, rank, has_top, has_bottom, columns_with, columns_of}
use Rattle.channel.specs.Word.Letter.{empty, top, bottom, both}
use Rattle.channel.specs.Cut.{count, before}
use Rattle.channel.proofs.Pins.{length-columns}
use Rattle.reach.proofs.Rightmost.{last_in}
use Rattle.letters.specs.declared.Progress.{Progress}
use Rattle.letters.specs.Letters.{has_top_pin, has_bottom_pin, behind, written}
use Rattle.letters.specs.Walking.{walk_columns, start_of, whole_walk}

-- a number that is put in, if h, behind the place of a list may be put in before that list or after it
sets_later :
    (h : Bool) (vs l : List ℕ) (k m a : ℕ) → k + length vs ≤ m
    → sets (cond h (set l m a) l) k vs ≡ cond h (set (sets l k vs) m a) (sets l k vs)
sets_later false vs l k m a e = refl
sets_later true [] l k m a e = refl
sets_later true (v ∷ vs) l k m a e =
    rw (set_comm l m k a v (omega arith)) (sets_later true vs (set l k v) (suc k) m a (omega arith))

-- put in just behind that place, it is one more at the end of the list
sets_end :
    (h : Bool) (vs l : List ℕ) (k m a : ℕ) → (h ≡ true → m ≡ k + length vs)
    → sets (cond h (set l m a) l) k vs ≡ sets l k (vs ++ cond h (a ∷ []) [])
sets_end false vs l k m a e = rw append-nil
sets_end true vs l k m a e = rw (e refl) (go vs l k)
  where
    go : (vs l : List ℕ) (k : ℕ) → sets (set l (k + length vs) a) k vs ≡ sets l k (vs ++ a ∷ [])
    go [] l k = rw add-zero
    go (v ∷ vs) l k =
        let place : k + suc (length vs) ≡ suc k + length vs = omega arith in
        rw (place, set_comm l (suc k + length vs) k a v (omega arith)) (go vs (set l k v) (suc k))

-- a letter's column, put in if h at the top's place and if g at the bottom's, before the columns of the letters left of it
letter_sets :
    (h g : Bool) (tops bottoms columns : List ℕ) (p i j a : ℕ) → length tops ≤ p → (h ≡ true → i ≡ length tops)
    → (g ≡ true → j ≡ length bottoms)
    → let half : List ℕ = cond h (set columns i a) columns in
    sets (sets (cond g (set half (p + j) a) half) 0 tops) p bottoms
    ≡ sets (sets columns 0 (tops ++ cond h (a ∷ []) [])) p (bottoms ++ cond g (a ∷ []) [])
letter_sets h g tops bottoms columns p i j a few last-top last-bottom =
    ap (λ (l : List ℕ). sets l p bottoms)
    (sets_later g tops half 0 (p + j) a (omega arith)
    ∙ ap (λ (l : List ℕ). cond g (set l (p + j) a) l) (sets_end h tops columns 0 i a (λ e. last-top e ∙ sym (zero-add (length tops)))))
    ∙ sets_end g bottoms (sets columns 0 (tops ++ cond h (a ∷ []) [])) p (p + j) a (λ e. ap (λ (k : ℕ). p + k) (last-bottom e))
  where
    half : List ℕ
    half = cond h (set columns i a) columns

-- the columns of the two sides, all put in
both_sets :
    (tops bottoms columns : List ℕ) (p q : ℕ) → length tops ≡ p → length bottoms ≡ q → p + q ≤ length columns
    → sets (sets columns 0 tops) p bottoms ≡ (tops ++ bottoms) ++ drop (p + q) columns
both_sets tops bottoms columns p q ts bs room =
    let size : length (sets columns 0 tops) ≡ length columns = length-sets columns 0 tops in
    sets-eq bottoms (sets columns 0 tops) p (omega arith)
    ∙ rw (sets-eq tops columns 0 (omega arith), take_at tops (drop (0 + length tops) columns) p ts, bs, ← ts)
    (rw (drop-append-add tops (drop (0 + length tops) columns) q, drop-drop, zero-add))

-- a pin that is left is placed
pin_placed : (t : Bool) (i : ℕ) → (t ≡ true → 0 < i) → (ltb 0 i && t) ≡ t
pin_placed true i h = rw (lt-ltb 0 i (h refl))
pin_placed false i h = and-false (ltb 0 i)

-- so the pins of the model's letter are
pins_placed :
    (a : Letter) (i j : ℕ) → (has_top a ≡ true → 0 < i) → (has_bottom a ≡ true → 0 < j)
    → (has_top_pin (rank a) i ≡ has_top a) × (has_bottom_pin (rank a) j ≡ has_bottom a)
pins_placed empty i j t b = (pin_placed false i t, pin_placed false j b)
pins_placed top i j t b = (pin_placed true i t, pin_placed false j b)
pins_placed bottom i j t b = (pin_placed false i t, pin_placed true j b)
pins_placed both i j t b = (pin_placed true i t, pin_placed true j b)

-- the walk behind a letter
pub behind-letter :
    (c i j x y : ℕ) (a : Letter) → (has_top a ≡ true → 0 < i) → (has_bottom a ≡ true → 0 < j)
    → behind (rank a) (record { c = suc c; i = i; j = j; top = x; bottom = y })
    ≡ record {
      c = c;
      i = before (has_top a) i;
      j = before (has_bottom a) j;
      top = last_in (has_top a) c x;
      bottom = last_in (has_bottom a) c y;
    }
behind-letter c i j x y a t b =
    let (top-pin, bottom-pin) = pins_placed a i j t b in
    rw (top-pin, bottom-pin, sub-one i, sub-one j, sub-one (suc c))

-- the columns that it writes, and those of the word w left of it
written_sets :
    (p c i j x y : ℕ) (a : Letter) (w : List Letter) (columns : List ℕ) → length w ≡ c → count has_top w ≡ before (has_top a) i
    → count has_bottom w ≡ before (has_bottom a) j → i ≤ p → (has_top a ≡ true → 0 < i) → (has_bottom a ≡ true → 0 < j)
    → sets
    (sets (written p (rank a) (record { c = suc c; i = i; j = j; top = x; bottom = y }) columns) 0 (columns_with has_top w)) p
    (columns_with has_bottom w)
    ≡ sets (sets columns 0 (columns_with has_top (a ∷ w))) p (columns_with has_bottom (a ∷ w))
written_sets p c i j x y a w columns size ts bs few t b =
    let (top-pin, bottom-pin) = pins_placed a i j t b in
    rw (top-pin, bottom-pin, size)
    (letter_sets (has_top a) (has_bottom a) (columns_with has_top w) (columns_with has_bottom w) columns p (i - 1) (j - 1) (suc c)
    (fewer (has_top a) (length-columns has_top w ∙ ts)) (place has_top i ts) (place has_bottom j bs))
  where
    fewer : (h : Bool) → length (columns_with has_top w) ≡ before h i → length (columns_with has_top w) ≤ p
    fewer true e = let l : length (columns_with has_top w) ≡ pred i = e in omega arith
    fewer false e = let l : length (columns_with has_top w) ≡ i = e in omega arith

    place :
        (f : Letter → Bool) (k : ℕ) → count f w ≡ before (f a) k → f a ≡ true → k - 1 ≡ length (columns_with f w)
    place f k e h = sub-one k ∙ sym (rw h at e) ∙ sym (length-columns f w)

-- the letters that a walk chooses, one after the other, are those of a word
abbrev pub Spells : (Progress → ℕ) → Progress → List Letter → Type 0
Spells choose m [] = Unit {0}
Spells choose m (a ∷ w) = (choose m ≡ rank a) × Spells choose (behind (rank a) m) w

-- one side of a word's first letter: where it has a pin, there is one to place, and the others are the rest's
pub first-pin : (h : Bool) (k i : ℕ) → cond h (suc k) k ≡ i → (h ≡ true → 0 < i) × (k ≡ before h i)
first-pin true k i e = (λ q. omega arith, ap pred e)
first-pin false k i e = (λ q. absurd (false≢true q), e)

pub before-few : (h : Bool) (i p : ℕ) → i ≤ p → before h i ≤ p
before-few true i p l = let less : pred i ≤ i = omega arith in omega arith
before-few false i p l = l

module _ (choose : Progress → ℕ) (p : ℕ) where
  -- it puts in the columns of the word
  puts :
      (w : List Letter) (c i j x y : ℕ) (columns : List ℕ) → length w ≡ c → count has_top w ≡ i → count has_bottom w ≡ j → i ≤ p
      → Spells choose (record { c = c; i = i; j = j; top = x; bottom = y }) w
      → walk_columns choose p c (record { c = c; i = i; j = j; top = x; bottom = y }) columns
      ≡ sets (sets columns 0 (columns_with has_top w)) p (columns_with has_bottom w)
  unfolding walk_columns
  puts [] c i j x y columns size ts bs few spells = rw (← size)
  puts (a ∷ w) zero i j x y columns size ts bs few spells = absurd (omega arith)
  puts (a ∷ w) (suc c) i j x y columns size ts bs few (letter, spells) =
      let (t, tops) = first-pin (has_top a) (count has_top w) i ts in
      let (b, bottoms) = first-pin (has_bottom a) (count has_bottom w) j bs in
      let shorter : length w ≡ c = omega arith in
      rw (letter, behind-letter c i j x y a t b)
      (puts w c _ _ _ _ _ shorter tops bottoms (before-few (has_top a) i p few) (rw (behind-letter c i j x y a t b) at spells)
      ∙ written_sets p c i j x y a w columns shorter tops bottoms few t b)

-- so over a whole channel it writes the word's columns, and leaves what stands behind them
pub spelt_columns :
    (choose : Progress → ℕ) (w : List Letter) (l p q : ℕ) (columns : List ℕ) → length w ≡ l → count has_top w ≡ p → count has_bottom w ≡ q
    → p + q ≤ length columns → Spells choose (start_of l p q) w
    → whole_walk choose l p q columns ≡ columns_of w ++ drop (p + q) columns
unfolding columns_of
spelt_columns choose w l p q columns size ts bs room spells =
    puts choose p w l p q 0 0 columns size ts bs (omega arith) spells
    ∙ both_sets (columns_with has_top w) (columns_with has_bottom w) columns p q (length-columns has_top w ∙ ts)
    (length-columns has_bottom w ∙ bs) room
