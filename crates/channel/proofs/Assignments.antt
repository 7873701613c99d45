-- An assignment and its word are the same thing: each is made from the other, and the way there and back changes nothing.
-- Assumes nothing.
use Rattle.std.proofs.Common.{◌≡◌, ℕ, suc, ◌+◌, ◌≤◌, Bool, true, false, ◌&&◌, leb, List, [], ◌∷◌, length, refl, ap, zero-le, arith, take-append-drop, take_at, drop_at, leb-true}
use Rattle.std.proofs.Math.Bool.{and-eq-true_iff}
use Rattle.std.proofs.lemmas.Bool.{false≢true}
use Rattle.channel.specs.Sheet.{Terminal, Sheet, Sound, SoundFrom}
use Rattle.channel.specs.Assignment.{allows, in_range, later_fit, side_fits, fits, top_columns, bottom_columns, is_assignment}
use Rattle.channel.specs.Word.{Letter, has_top, has_bottom, word, columns_with, columns_of}
use Rattle.channel.proofs.Sets.{allowed-column}
use Rattle.channel.proofs.Columns.{Rises, length-word_of, columns_of-word_of, word_of-columns}

-- what `later_fit` asks of a terminal that stands in column c
pub later_parts :
    (t : Terminal) (ts : List Terminal) (b c : ℕ) (cs : List ℕ) → later_fit (t ∷ ts) b (c ∷ cs) ≡ true
    → (allows t.allowed c ≡ true) × (b + t.least ≤ c) × (c ≤ b + t.greatest) × (later_fit ts c cs ≡ true)
later_parts t ts b c cs h =
    let (q, r) = (and-eq-true_iff (allows t.allowed c) (in_range t.least t.greatest b c && later_fit ts c cs)).0 h in
    let (p, later) = (and-eq-true_iff (in_range t.least t.greatest b c) (later_fit ts c cs)).0 r in
    let (at_least, at_most) = (and-eq-true_iff (leb (b + t.least) c) (leb c (b + t.greatest))).0 p in
    (q, leb-true (b + t.least) c at_least, leb-true c (b + t.greatest) at_most, later)

-- terminals after the first have a column each
later-length : (ts : List Terminal) (b : ℕ) (cs : List ℕ) → later_fit ts b cs ≡ true → length cs ≡ length ts
later-length [] b [] h = refl
later-length [] b (c ∷ cs) h = absurd (false≢true h)
later-length (t ∷ ts) b [] h = absurd (false≢true h)
later-length (t ∷ ts) b (c ∷ cs) h = ap suc (later-length ts c cs (later_parts t ts b c cs h).3)

-- and their columns rise strictly from the one before, up to l at most: a distance is at least 1
later_rises :
    (l : ℕ) (ts : List Terminal) (b : ℕ) (cs : List ℕ) → SoundFrom l false ts → b ≤ l → later_fit ts b cs ≡ true → Rises b cs l
later_rises l [] b [] sound hb h = hb
later_rises l [] b (c ∷ cs) sound hb h = absurd (false≢true h)
later_rises l (t ∷ ts) b [] sound hb h = absurd (false≢true h)
later_rises l (t ∷ ts) b (c ∷ cs) sound hb h =
    let (q, at_least, at_most, later) = later_parts t ts b c cs h in
    let (low, high) = allowed-column l t.allowed c q sound.0.allowed in
    let (least, greatest) = (and-eq-true_iff (leb 1 t.least) (leb t.least t.greatest)).0 sound.0.distances in
    (omega (arith, leb-true 1 t.least least), later_rises l ts c cs sound.1 high later)

-- a side that fits has as many columns as terminals
pub side-length : (ts : List Terminal) (cs : List ℕ) → side_fits ts cs ≡ true → length cs ≡ length ts
side-length [] [] h = refl
side-length [] (c ∷ cs) h = absurd (false≢true h)
side-length (t ∷ ts) [] h = absurd (false≢true h)
side-length (t ∷ ts) (c ∷ cs) h = ap suc (later-length ts c cs ((and-eq-true_iff (allows t.allowed c) (later_fit ts c cs)).0 h).1)

-- the columns of a side that fits rise strictly, and are among 1 to l
pub side_rises : (l : ℕ) (ts : List Terminal) (cs : List ℕ) → SoundFrom l true ts → side_fits ts cs ≡ true → Rises 0 cs l
side_rises l [] [] sound h = zero-le
side_rises l [] (c ∷ cs) sound h = absurd (false≢true h)
side_rises l (t ∷ ts) [] sound h = absurd (false≢true h)
side_rises l (t ∷ ts) (c ∷ cs) sound h =
    let (q, later) = (and-eq-true_iff (allows t.allowed c) (later_fit ts c cs)).0 h in
    let (low, high) = allowed-column l t.allowed c q sound.0.allowed in
    (low, later_rises l ts c cs sound.1 high later)

-- the columns of a word are an assignment
abbrev pub word_fits : Sheet → List Letter → Bool
word_fits s w = fits s (columns_with has_top w) (columns_with has_bottom w)

module _ (s : Sheet) where
  -- columns that fit do so on each side
  pub fits_sides :
      (tops bottoms : List ℕ) → fits s tops bottoms ≡ true
      → (side_fits s.top tops ≡ true) × (side_fits s.bottom bottoms ≡ true)
  unfolding fits
  fits_sides tops bottoms h = (and-eq-true_iff (side_fits s.top tops) (side_fits s.bottom bottoms)).0 h

  -- columns that fit are as many as the terminals
  pub fits_lengths :
      (tops bottoms : List ℕ) → fits s tops bottoms ≡ true
      → (length tops ≡ length s.top) × (length bottoms ≡ length s.bottom)
  fits_lengths tops bottoms h =
      let (t, b) = fits_sides tops bottoms h in
      (side-length s.top tops t, side-length s.bottom bottoms b)

  -- columns that fit rise strictly on each side, and are among 1 to L
  pub fits_rises :
      Sound s → (tops bottoms : List ℕ) → fits s tops bottoms ≡ true
      → Rises 0 tops s.columns × Rises 0 bottoms s.columns
  fits_rises sound tops bottoms h =
      let (t, b) = fits_sides tops bottoms h in
      (side_rises s.columns s.top tops sound.top t, side_rises s.columns s.bottom bottoms sound.bottom b)

  -- a word has a letter for each column
  pub length-word : (es : List ℕ) → length (word s es) ≡ s.columns
  unfolding word
  length-word es = length-word_of s.columns (top_columns s es) (bottom_columns s es)

  -- the columns of an assignment's word are the assignment's, on each side
  pub word_sides :
      Sound s → (es : List ℕ) → is_assignment s es ≡ true
      → (columns_with has_top (word s es) ≡ top_columns s es) × (columns_with has_bottom (word s es) ≡ bottom_columns s es)
  unfolding is_assignment word
  word_sides sound es h =
      let (t, b) = fits_rises sound (top_columns s es) (bottom_columns s es) h in
      columns_of-word_of s.columns (top_columns s es) (bottom_columns s es) t b

  -- an assignment is the columns of its word
  pub columns_of-word : Sound s → (es : List ℕ) → is_assignment s es ≡ true → columns_of (word s es) ≡ es
  unfolding columns_of top_columns bottom_columns
  columns_of-word sound es h =
      let (t, b) = word_sides sound es h in
      rw (t, b) (take-append-drop (length s.top) es)

  -- the word of an assignment fits
  pub fits_word : Sound s → (es : List ℕ) → is_assignment s es ≡ true → word_fits s (word s es) ≡ true
  unfolding is_assignment
  fits_word sound es h =
      let (t, b) = word_sides sound es h in
      rw (t, b) h

  -- the columns of a word that fits are the word's, on each side
  pub columns_of_sides :
      (w : List Letter) → word_fits s w ≡ true
      → (top_columns s (columns_of w) ≡ columns_with has_top w) × (bottom_columns s (columns_of w) ≡ columns_with has_bottom w)
  unfolding columns_of top_columns bottom_columns
  columns_of_sides w h =
      let tops : List ℕ = columns_with has_top w in
      let bottoms : List ℕ = columns_with has_bottom w in
      let n : length tops ≡ length s.top = (fits_lengths tops bottoms h).0 in
      (take_at tops bottoms (length s.top) n, drop_at tops bottoms (length s.top) n)

  -- the columns of a word that fits are an assignment
  pub assignment_columns_of : (w : List Letter) → word_fits s w ≡ true → is_assignment s (columns_of w) ≡ true
  unfolding is_assignment
  assignment_columns_of w h =
      let (t, b) = columns_of_sides w h in
      rw (t, b) h

  -- a word that fits and has L letters is the word of its columns
  pub word-columns_of : (w : List Letter) → word_fits s w ≡ true → length w ≡ s.columns → word s (columns_of w) ≡ w
  unfolding word
  word-columns_of w h n =
      let (t, b) = columns_of_sides w h in
      rw (t, b, ← n) (word_of-columns w)
