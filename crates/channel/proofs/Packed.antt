-- Words with their empty letters taken out or put in front: the pins and the load stay the same.
-- Assumes nothing.
use Rattle.std.proofs.Common.{◌≡◌, ℕ, zero, suc, ◌+◌, ◌-◌, ◌≤◌, Bool, true, false, cond, ◌||◌, List, [], ◌∷◌, ◌++◌, length, replicate, refl, ◌∙◌, append-nil, arith, length-append}
use Rattle.std.proofs.Math.ListN.{length-replicate}
use Rattle.std.proofs.Math.Nat.{zero-max}
use Rattle.channel.specs.Sheet.{Sheet}
use Rattle.channel.specs.Word.{Letter, has_top, has_bottom, columns_with}
use Rattle.channel.specs.Word.Letter.{empty, top, bottom, both}
use Rattle.channel.specs.Cut.{count, occupied, word_load}

-- the pins of a word with k more letters of one kind in front
pub count-front : (f : Letter → Bool) (k : ℕ) (a : Letter) (w : List Letter) → count f (replicate k a ++ w) ≡ cond (f a) k 0 + count f w
count-front f zero a w = go (f a)
  where
    go : (h : Bool) → count f w ≡ cond h 0 0 + count f w
    go true = omega arith
    go false = omega arith
count-front f (suc k) a w = rw (count-front f k a w) (go (f a))
  where
    go : (h : Bool) → cond h (suc (cond h k 0 + count f w)) (cond h k 0 + count f w) ≡ cond h (suc k) 0 + count f w
    go true = omega arith
    go false = omega arith

-- empty letters in front of a word, at the channel's right end, hold no column
pub columns_padded : (f : Letter → Bool) → f empty ≡ false → (k : ℕ) (w : List Letter)
    → columns_with f (replicate k empty ++ w) ≡ columns_with f w
columns_padded f e zero w = refl
columns_padded f e (suc k) w = rw (e, append-nil, columns_padded f e k w)

-- and add no load
pub load_padded : (s : Sheet) (k : ℕ) (w : List Letter) → word_load s (replicate k empty ++ w) ≡ word_load s w
load_padded s zero w = refl
load_padded s (suc k) w = rw (load_padded s k w, zero-max)

-- a letter is the empty one, or its column is occupied
letter_cases : (P : Letter → Type 0) → P empty → ((a : Letter) → occupied a ≡ true → P a) → (a : Letter) → P a
letter_cases P e o empty = e
letter_cases P e o top = o top refl
letter_cases P e o bottom = o bottom refl
letter_cases P e o both = o both refl

-- a word without its empty letters
packed : List Letter → List Letter
packed [] = []
packed (a ∷ w) = cond (occupied a) (a ∷ packed w) (packed w)

-- it has the same pins
count_packed : (f : Letter → Bool) → f empty ≡ false → (w : List Letter) → count f (packed w) ≡ count f w
unfolding packed
count_packed f e [] = refl
count_packed f e (a ∷ w) =
    let same : count f (packed w) ≡ count f w = count_packed f e w in
    letter_cases (λ a. count f (packed (a ∷ w)) ≡ count f (a ∷ w)) (rw e same) (λ a o. rw (o, same)) a

-- and the same load
load_packed : (s : Sheet) (w : List Letter) → word_load s (packed w) ≡ word_load s w
unfolding packed
load_packed s [] = refl
load_packed s (a ∷ w) =
    let same : word_load s (packed w) ≡ word_load s w = load_packed s w in
    letter_cases (λ a. word_load s (packed (a ∷ w)) ≡ word_load s (a ∷ w)) (rw zero-max same)
    (λ a o. rw (o, o, same, count_packed has_top refl w, count_packed has_bottom refl w)) a

-- it has no more letters than pins
length_packed : (w : List Letter) → length (packed w) ≤ count has_top w + count has_bottom w
unfolding packed
length_packed [] = omega arith
length_packed (a ∷ w) = go (has_top a) (has_bottom a) (count has_top w) (count has_bottom w) (length_packed w)
  where
    go : (x y : Bool) (l m : ℕ) → length (packed w) ≤ l + m
        → length (cond (x || y) (a ∷ packed w) (packed w)) ≤ cond x (suc l) l + cond y (suc m) m
    go true true l m h = omega arith
    go true false l m h = omega arith
    go false true l m h = omega arith
    go false false l m h = omega arith

-- a word's occupied letters in their order, at the left end of a channel of l columns
pub refit : ℕ → List Letter → List Letter
refit l w = replicate (l - length (packed w)) empty ++ packed w

-- it is l letters long if there is room for its pins, and has the same pins and the same load
pub length_refit : (l : ℕ) (w : List Letter) → count has_top w + count has_bottom w ≤ l → length (refit l w) ≡ l
unfolding refit
length_refit l w h = simp (length-append, length-replicate) (omega (arith, length_packed w))

pub count_refit : (f : Letter → Bool) → f empty ≡ false → (l : ℕ) (w : List Letter) → count f (refit l w) ≡ count f w
unfolding refit
count_refit f e l w = rw (count-front f (l - length (packed w)) empty (packed w), e, count_packed f e w) (omega arith)

pub load_refit : (s : Sheet) (l : ℕ) (w : List Letter) → word_load s (refit l w) ≡ word_load s w
unfolding refit
load_refit s l w = load_padded s (l - length (packed w)) (packed w) ∙ load_packed s w
