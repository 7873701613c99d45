-- The list `words l` holds every word of l letters, holds no other, and stands in dictionary order.
-- Assumes nothing.
use Rattle.std.proofs.Common.{◌≡◌, ℕ, zero, suc, ◌<◌, true, List, [], ◌∷◌, ◌++◌, map, length, sym, refl, ap, subst, ⊎_elim, arith, lt-ltb}
use mathlib.Core.List.Memᴰ
use mathlib.Core.List.{Memᴰ}
use Rattle.channel.specs.Word.{Letter, rank, no_later, words}
use Rattle.channel.specs.Word.Letter.{empty, top, bottom, both}

-- P holds of each word that stands in a list
abbrev pub Each : (List Letter → Type 0) → List (List Letter) → Type 0
Each P ws = (v : List Letter) → Memᴰ v ws → P v

-- to show it of a list, show it of the list's parts
pub each_nil : (P : List Letter → Type 0) → Each P []
each_nil P v m = absurd (Memᴰ.not-nil m)

pub each_cons : (P : List Letter → Type 0) (w : List Letter) (ws : List (List Letter)) → P w → Each P ws → Each P (w ∷ ws)
each_cons P w ws first rest v m = ⊎_elim (λ (e : v ≡ w). subst P (sym e) first) (rest v) (Memᴰ.cases_cons m)

each_append : (P : List Letter → Type 0) (us vs : List (List Letter)) → Each P us → Each P vs → Each P (us ++ vs)
each_append P us vs hu hv v m = ⊎_elim (hu v) (hv v) (Memᴰ.append_cases us m)

-- the words of a list, with letter a put in front of each
abbrev block : Letter → List (List Letter) → List (List Letter)
block a ws = map (λ w. a ∷ w) ws

each_block :
    (P : List Letter → Type 0) (a : Letter) (ws : List (List Letter)) → Each (λ w. P (a ∷ w)) ws → Each P (block a ws)
each_block P a ws h v m =
    let (w, k, e) = Memᴰ.of_map (λ w. a ∷ w) ws m in
    subst P e (h w k)

-- the same letter in front keeps two words in order
no_later_cons : (a : Letter) (v w : List Letter) → no_later v w ≡ true → no_later (a ∷ v) (a ∷ w) ≡ true
no_later_cons empty v w h = h
no_later_cons top v w h = h
no_later_cons bottom v w h = h
no_later_cons both v w h = h

-- a word is no later than itself
pub no_later_refl : (w : List Letter) → no_later w w ≡ true
no_later_refl [] = refl
no_later_refl (a ∷ w) = no_later_cons a w w (no_later_refl w)

-- a list of words in dictionary order: each is no later than those after it
abbrev pub Sorted : List (List Letter) → Type 0
Sorted [] = Unit {0}
Sorted (w ∷ ws) = Each (λ v. no_later w v ≡ true) ws × Sorted ws

-- two lists in order, one after the other
sorted_append :
    (us vs : List (List Letter)) → Sorted us → Sorted vs → Each (λ u. Each (λ v. no_later u v ≡ true) vs) us → Sorted (us ++ vs)
sorted_append [] vs su sv h = sv
sorted_append (u ∷ us) vs su sv h = (
  each_append (λ v. no_later u v ≡ true) us vs su.0 (h u (Memᴰ.head refl)),
  sorted_append us vs su.1 sv (λ v m. h v (Memᴰ.tail m)),
)

sorted_block : (a : Letter) (ws : List (List Letter)) → Sorted ws → Sorted (block a ws)
sorted_block a [] h = tt
sorted_block a (w ∷ ws) h = (
  each_block (λ v. no_later (a ∷ w) v ≡ true) a ws (λ v m. no_later_cons a w v (h.0 v m)),
  sorted_block a ws h.1,
)

-- the first letter of a word, if it has one, ranks below n
abbrev FirstBelow : ℕ → List Letter → Type 0
FirstBelow n [] = Unit {0}
FirstBelow n (a ∷ w) = rank a < n

first_below_suc : (n : ℕ) (w : List Letter) → FirstBelow n w → FirstBelow (suc n) w
first_below_suc n [] h = tt
first_below_suc n (a ∷ w) h = omega arith

-- a word whose first letter ranks lower comes first
no_later-first : (v : List Letter) (b : Letter) (w : List Letter) → FirstBelow (rank b) v → no_later v (b ∷ w) ≡ true
no_later-first [] b w h = refl
no_later-first (a ∷ v) b w h = rw (lt-ltb (rank a) (rank b) h)

-- words in dictionary order whose first letters rank below n
record Begun (n : ℕ) (us : List (List Letter)) : Type 0 where
  sorted : Sorted us
  below : Each (FirstBelow n) us

-- after blocks of lower letters comes the block of letter b
begun_append :
    (us : List (List Letter)) (b : Letter) (ws : List (List Letter)) → Begun (rank b) us → Sorted ws
    → Begun (suc (rank b)) (us ++ block b ws)
begun_append us b ws r h = record { sorted = sorted; below = below }
  where
    sorted : Sorted (us ++ block b ws)
    sorted =
        sorted_append us (block b ws) r.sorted (sorted_block b ws h)
        (λ u m. each_block (λ v. no_later u v ≡ true) b ws (λ w k. no_later-first u b w (r.below u m)))

    below : Each (FirstBelow (suc (rank b))) (us ++ block b ws)
    below =
        each_append (FirstBelow (suc (rank b))) us (block b ws) (λ u m. first_below_suc (rank b) u (r.below u m))
        (each_block (FirstBelow (suc (rank b))) b ws (λ w k. omega arith))

-- how `words` makes the words of one more letter: a block for each letter
module _ (ws : List (List Letter)) where
  -- the blocks up to a letter's, and all of them
  abbrev up_to_top : List (List Letter)
  up_to_top = block empty ws ++ block top ws

  abbrev up_to_bottom : List (List Letter)
  up_to_bottom = up_to_top ++ block bottom ws

  abbrev blocks : List (List Letter)
  blocks = up_to_bottom ++ block both ws

  -- every letter with every word of ws after it is in the blocks
  blocks_member : (a : Letter) (w : List Letter) → Memᴰ w ws → Memᴰ (a ∷ w) blocks
  blocks_member empty w m =
      Memᴰ.append_left (block both ws) (Memᴰ.append_left (block bottom ws) (Memᴰ.append_left (block top ws) (Memᴰ.map (λ v. empty ∷ v) m)))
  blocks_member top w m =
      Memᴰ.append_left (block both ws) (Memᴰ.append_left (block bottom ws) (Memᴰ.append_right (block empty ws) (Memᴰ.map (λ v. top ∷ v) m)))
  blocks_member bottom w m = Memᴰ.append_left (block both ws) (Memᴰ.append_right up_to_top (Memᴰ.map (λ v. bottom ∷ v) m))
  blocks_member both w m = Memᴰ.append_right up_to_bottom (Memᴰ.map (λ v. both ∷ v) m)

  -- nothing else is
  blocks_each : (P : List Letter → Type 0) → ((a : Letter) → Each (λ w. P (a ∷ w)) ws) → Each P blocks
  blocks_each P h =
      let t : Each P up_to_top = each_append P (block empty ws) (block top ws) (in_block empty) (in_block top) in
      let b : Each P up_to_bottom = each_append P up_to_top (block bottom ws) t (in_block bottom) in
      each_append P up_to_bottom (block both ws) b (in_block both)
    where
      in_block : (a : Letter) → Each P (block a ws)
      in_block a = each_block P a ws (h a)

  -- the blocks of a list in order are in order
  blocks_sorted : Sorted ws → Sorted blocks
  blocks_sorted h =
      let e : Begun 1 (block empty ws) = begun_append [] empty ws (record { sorted = tt; below = each_nil (FirstBelow 0) }) h in
      let t : Begun 2 up_to_top = begun_append (block empty ws) top ws e h in
      let b : Begun 3 up_to_bottom = begun_append up_to_top bottom ws t h in
      (begun_append up_to_bottom both ws b h).sorted

-- every word stands in the list of the words of its length
pub words_complete : (w : List Letter) → Memᴰ w (words (length w))
unfolding words
words_complete [] = Memᴰ.head refl
words_complete (a ∷ w) = blocks_member (words (length w)) a w (words_complete w)

-- each word of `words l` has l letters
pub words-length : (l : ℕ) → Each (λ w. length w ≡ l) (words l)
unfolding words
words-length zero = each_cons (λ w. length w ≡ 0) [] [] refl (each_nil (λ w. length w ≡ 0))
words-length (suc l) = blocks_each (words l) (λ w. length w ≡ suc l) (λ a w m. ap suc (words-length l w m))

-- `words l` stands in dictionary order
pub words_sorted : (l : ℕ) → Sorted (words l)
unfolding words
words_sorted zero = (each_nil (λ v. no_later [] v ≡ true), tt)
words_sorted (suc l) = blocks_sorted (words l) (words_sorted l)
