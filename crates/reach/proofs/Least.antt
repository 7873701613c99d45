-- The least bound under which all pins can be placed, with the word that the walk writes under it, is the best assignment of a sheet.
-- Assumes nothing.
use Rattle.std.proofs.Common.{◌≡◌, ℕ, ◌+◌, ◌<◌, ◌≤◌, max, Bool, true, false, cond, ◌&&◌, ◌||◌, eqb, ltb, leb, List, [], ◌∷◌, ◌++◌, map, length, sym, refl, ap, ◌∙◌, ap₂, true≢false, le_refl, arith, length-append, ltb-true, eqb-true, leb-false, leb-true}
use Rattle.std.proofs.Math.Bool.{and-eq-true_iff}
use Rattle.std.proofs.Math.ListN.{length-map}
use Rattle.std.proofs.lemmas.Bool.{false≢true}
use Rattle.channel.specs.Sheet.{Terminal, Sheet, Sound}
use Rattle.channel.specs.Assignment.{is_assignment}
use Rattle.channel.specs.Density.{weight_of, nets_of, density, most_density}
use Rattle.channel.specs.Word.{Letter, rank, has_top, has_bottom, columns_of, word, no_later}
use Rattle.channel.specs.Cut.{count, load, occupied, word_load}
use Rattle.channel.specs.Best.{Found, best, IsBest, Answers}
use Rattle.channel.specs.Best.Found.{none, found}
use Rattle.channel.proofs.Assignments.{word_fits, length-word, columns_of-word, fits_word, assignment_columns_of, word-columns_of}
use Rattle.channel.proofs.Best.{best_answers, none_exactly}
use Rattle.channel.proofs.Spans.{length-distinct}
use Rattle.reach.specs.Reach.{feasible}
use Rattle.reach.specs.Greedy.{walk_word}
use Rattle.reach.proofs.Smallest.{rank_same}
use Rattle.reach.proofs.Whole.{Whole, fits_whole, whole-fits, whole-density, whole-feasible, walk-whole, walk-no_later}

-- of two words in order, the first letters are, and if they are the same, so are the rests
no_later_parts :
    (a b : Letter) (v w : List Letter) → no_later (a ∷ v) (b ∷ w) ≡ true → (rank a ≤ rank b) × (rank a ≡ rank b → no_later v w ≡ true)
no_later_parts a b v w e = decide (ltb (rank a) (rank b)) refl e
  where
    decide :
        (t : Bool) → ltb (rank a) (rank b) ≡ t → (t || (eqb (rank a) (rank b) && no_later v w)) ≡ true
        → (rank a ≤ rank b) × (rank a ≡ rank b → no_later v w ≡ true)
    decide true q h = let less : rank a < rank b = ltb-true (rank a) (rank b) q in (omega arith, λ p. absurd (omega arith))
    decide false q h =
        let (x, y) = (and-eq-true_iff (eqb (rank a) (rank b)) (no_later v w)).0 h in
        (omega (arith, eqb-true (rank a) (rank b) x), λ p. y)

-- two words, neither of them later than the other, are the same
no_later_same : (v w : List Letter) → no_later v w ≡ true → no_later w v ≡ true → v ≡ w
no_later_same [] [] h k = refl
no_later_same [] (b ∷ w) h k = absurd (false≢true k)
no_later_same (a ∷ v) [] h k = absurd (false≢true h)
no_later_same (a ∷ v) (b ∷ w) h k =
    let (x, y) = no_later_parts a b v w h in
    let (z, o) = no_later_parts b a w v k in
    let same : rank a ≡ rank b = omega arith in
    ap₂ (λ a v. a ∷ v) (rank_same a b same) (no_later_same v w (y same) (o (sym same)))

module _ (s : Sheet) (sound : Sound s) where
  -- a sheet has one best assignment
  best_same : (d e : ℕ) (cs es : List ℕ) → IsBest s d cs → IsBest s e es → found e es ≡ found d cs
  best_same d e cs es x y =
      let up : d ≤ e = rw y.exact at (x.least es y.assignment) in
      let down : e ≤ d = rw x.exact at (y.least cs x.assignment) in
      let level : e ≡ d = omega arith in
      let word_same : word s es ≡ word s cs =
      no_later_same (word s es) (word s cs) (y.smallest cs x.assignment (x.exact ∙ sym level))
      (x.smallest es y.assignment (y.exact ∙ level)) in
      let columns : es ≡ cs =
      sym (columns_of-word s sound es y.assignment) ∙ ap columns_of word_same ∙ columns_of-word s sound cs x.assignment in
      ap₂ found level columns

  -- so what is best in that sense is what `best` finds
  is_best : (d : ℕ) (cs : List ℕ) → IsBest s d cs → best s ≡ found d cs
  is_best d cs r = go (best s) (best_answers s sound)
    where
      go : (f : Found) → Answers s f → f ≡ found d cs
      go none a = absurd (true≢false (sym r.assignment ∙ a cs))
      go (found e es) a = best_same d e cs es r a

  -- the word of an assignment places all pins, with no load above any bound on its own
  word-whole : (es : List ℕ) → is_assignment s es ≡ true → (d : ℕ) → word_load s (word s es) ≤ d → Whole s d (word s es)
  word-whole es h d k = fits_whole s d (word s es) (length-word s es) (fits_word s sound es h) k

  -- its load is the assignment's density
  word_density_lem : (es : List ℕ) → is_assignment s es ≡ true → density s es ≡ word_load s (word s es)
  word_density_lem es h =
      rw (columns_of-word s sound es h) at (whole-density s _ (word s es) (word-whole es h (word_load s (word s es)) (le_refl _)))

  -- no assignment has less than the least bound
  assignment_bound :
      (d : ℕ) → ((e : ℕ) → e < d → feasible s e ≡ false) → (es : List ℕ) → is_assignment s es ≡ true → d ≤ density s es
  assignment_bound d least es h = decide (leb d (density s es)) refl
    where
      decide : (t : Bool) → leb d (density s es) ≡ t → d ≤ density s es
      decide true q = leb-true d (density s es) q
      decide false q =
          let r : Whole s (density s es) (word s es) = word-whole es h (density s es) (omega (arith, word_density_lem es h)) in
          let f : feasible s (density s es) ≡ true = whole-feasible s (density s es) (word s es) r in
          absurd (true≢false (sym f ∙ least (density s es) (leb-false d (density s es) q)))

  -- the least bound and the word of the walk under it are the best
  walk-best :
      (d : ℕ) → feasible s d ≡ true → ((e : ℕ) → e < d → feasible s e ≡ false) → IsBest s d (columns_of (walk_word s d))
  walk-best d f least =
      let r : Whole s d (walk_word s d) = walk-whole s d f in
      let fit : word_fits s (walk_word s d) ≡ true = whole-fits s d (walk_word s d) r in
      let assigned : is_assignment s (columns_of (walk_word s d)) ≡ true = assignment_columns_of s (walk_word s d) fit in
      let low : d ≤ density s (columns_of (walk_word s d)) = assignment_bound d least (columns_of (walk_word s d)) assigned in
      record {
        assignment = assigned;
        exact = omega (arith, whole-density s d (walk_word s d) r, r.bound, low);
        least = assignment_bound d least;
        smallest = λ es h q.
            rw (word-columns_of s (walk_word s d) fit r.size)
            (walk-no_later s d (word s es) (word-whole es h d (omega (arith, word_density_lem es h))));
      }

-- the least bound under which all pins can be placed, with the columns of the walk under it, is the best assignment
pub search-best :
    (s : Sheet) → Sound s → (d : ℕ) → feasible s d ≡ true → ((e : ℕ) → e < d → feasible s e ≡ false)
    → best s ≡ found d (columns_of (walk_word s d))
search-best s sound d f least = is_best s sound d (columns_of (walk_word s d)) (walk-best s sound d f least)

-- a list's nets weigh at most one each
weight-length : (f : ℕ → Bool) (ns : List ℕ) → weight_of f ns ≤ length ns
weight-length f [] = omega arith
weight-length f (n ∷ ns) = go (f n) (weight-length f ns)
  where
    go : (t : Bool) → weight_of f ns ≤ length ns → cond t 1 0 + weight_of f ns ≤ length (n ∷ ns)
    go true h = omega arith
    go false h = omega arith

module _ (s : Sheet) where
  -- there are at most as many nets as terminals
  nets-length : length (nets_of s) ≤ length s.top + length s.bottom
  unfolding nets_of
  nets-length =
      let ts : List Terminal = s.top ++ s.bottom in
      omega (
        arith,
        length-distinct (map (λ (t : Terminal). t.net) ts),
        length-map ts (λ (t : Terminal). t.net),
        length-append s.top s.bottom,
      )

  -- a column's load, and so a word's, is at most the number of nets
  load-nets : (a : Letter) (i j : ℕ) → load s a i j ≤ length (nets_of s)
  unfolding load
  load-nets a i j = weight-length _ (nets_of s)

  word_load-nets : (w : List Letter) → word_load s w ≤ length (nets_of s)
  word_load-nets [] = omega arith
  word_load-nets (a ∷ w) = go (occupied a) (load-nets a (count has_top (a ∷ w)) (count has_bottom (a ∷ w))) (word_load-nets w)
    where
      go : (t : Bool) {m n : ℕ} → m ≤ length (nets_of s) → n ≤ length (nets_of s) → max (cond t m 0) n ≤ length (nets_of s)
      go true h k = omega arith
      go false h k = omega arith

-- where not even the most that a density can be is enough there is no assignment
pub search-none : (s : Sheet) → Sound s → feasible s most_density ≡ false → best s ≡ none
search-none s sound f = (none_exactly s sound).1 (λ es. refuse es (is_assignment s es) refl)
  where
    refuse : (es : List ℕ) (t : Bool) → is_assignment s es ≡ t → t ≡ false
    refuse es false q = refl
    refuse es true q =
        let enough : word_load s (word s es) ≤ most_density = omega (arith, word_load-nets s (word s es), nets-length s, sound.counts) in
        absurd (true≢false (sym (whole-feasible s most_density (word s es) (word-whole s sound es q most_density enough)) ∙ f))
