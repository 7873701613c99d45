-- Demand 2: what `best` finds is the best assignment of a sheet, and it finds none exactly when there is no assignment.
-- Assumes nothing.
use Rattle.std.proofs.Common.{◌≡◌, ℕ, ◌<◌, ◌≤◌, Bool, true, false, cond, leb, ◌↔◌, List, [], ◌∷◌, sym, refl, ◌∙◌, subst, true≢false, arith, leb-false, leb-true}
use Rattle.std.proofs.lemmas.Bool.{false_from_ne_true}
use mathlib.Core.List.{Memᴰ}
use Rattle.channel.specs.Sheet.{Sheet, Sound}
use Rattle.channel.specs.Assignment.{is_assignment}
use Rattle.channel.specs.Density.{density}
use Rattle.channel.specs.Word.{Letter, columns_of, word, words, no_later}
use Rattle.channel.specs.Best.{Found, better, best_of, best, IsBest, Answers}
use Rattle.channel.specs.Best.Found.{none, found}
use Rattle.channel.proofs.Words.{Each, each_nil, each_cons, Sorted, no_later_refl, words-length, words_complete, words_sorted}
use Rattle.channel.proofs.Assignments.{word_fits, length-word, columns_of-word, fits_word, assignment_columns_of, word-columns_of}

-- the density of a word's columns
abbrev word_density : Sheet → List Letter → ℕ
word_density s w = density s (columns_of w)

-- word w, of density d, is no worse than v: if v fits, it has no less density, and if it has as much, it is no earlier
abbrev NoWorse : Sheet → ℕ → List Letter → List Letter → Type 0
NoWorse s d w v = word_fits s v ≡ true → (d ≤ word_density s v) × (word_density s v ≡ d → no_later w v ≡ true)

-- a word of a list that fits and is no worse than any in it, with its density and its columns
record FirstLeast (s : Sheet) (ws : List (List Letter)) (d : ℕ) (cs : List ℕ) : Type 0 where
  one : List Letter
  member : Memᴰ one ws
  fitting : word_fits s one ≡ true
  columns : columns_of one ≡ cs
  exact : density s cs ≡ d
  no_worse : Each (NoWorse s d one) ws

-- what `best_of` says of a list of words: none of them fits, or which one is the best
abbrev Outcome : Sheet → List (List Letter) → Found → Type 0
Outcome s ws none = Each (λ v. word_fits s v ≡ false) ws
Outcome s ws (found d cs) = FirstLeast s ws d cs

-- one more word in front
module _ (s : Sheet) (w : List Letter) (ws : List (List Letter)) where
  -- the best of the rest stays the best, if it is no worse than w
  rest_wins : (d : ℕ) (cs : List ℕ) (r : FirstLeast s ws d cs) → NoWorse s d r.one w → FirstLeast s (w ∷ ws) d cs
  rest_wins d cs r h = record {
    one = r.one;
    member = Memᴰ.tail r.member;
    fitting = r.fitting;
    columns = r.columns;
    exact = r.exact;
    no_worse = each_cons (NoWorse s d r.one) w ws h r.no_worse;
  }

  -- w is the best, if it is no worse than each of the rest
  front_wins : word_fits s w ≡ true → Each (NoWorse s (word_density s w) w) ws → FirstLeast s (w ∷ ws) (word_density s w) (columns_of w)
  front_wins h rest = record {
    one = w;
    member = Memᴰ.head refl;
    fitting = h;
    columns = refl;
    exact = refl;
    no_worse = each_cons (NoWorse s (word_density s w) w) w ws (λ k. (omega arith, λ q. no_later_refl w)) rest;
  }

  -- a word that does not fit changes nothing
  skipped : word_fits s w ≡ false → (f : Found) → Outcome s ws f → Outcome s (w ∷ ws) f
  skipped h none r = each_cons (λ v. word_fits s v ≡ false) w ws h r
  skipped h (found d cs) r = rest_wins d cs r (λ k. absurd (true≢false (sym k ∙ h)))

  -- a word that fits is held against the best of the rest, which all stand after it
  weighed :
      word_fits s w ≡ true → Each (λ v. no_later w v ≡ true) ws → (f : Found) → Outcome s ws f
      → Outcome s (w ∷ ws) (better (word_density s w) (columns_of w) f)
  weighed h later none r = front_wins h (λ v m k. absurd (true≢false (sym k ∙ r v m)))
  weighed h later (found e es) r = decide (leb (word_density s w) e) refl
    where
      decide :
          (t : Bool) → leb (word_density s w) e ≡ t
          → Outcome s (w ∷ ws) (cond t (found (word_density s w) (columns_of w)) (found e es))
      decide true q = front_wins h (λ v m k. (omega (arith, leb-true (word_density s w) e q, (r.no_worse v m k).0), λ p. later v m))
      decide false q =
          let more : e < word_density s w = leb-false (word_density s w) e q in
          rest_wins e es r (λ k. (omega arith, λ p. absurd (omega arith)))

-- `best_of` finds the best of any list of words in dictionary order
outcome : (s : Sheet) (ws : List (List Letter)) → Sorted ws → Outcome s ws (best_of s ws)
unfolding best_of
outcome s [] h = each_nil (λ v. word_fits s v ≡ false)
outcome s (w ∷ ws) h = step (word_fits s w) refl (best_of s ws) (outcome s ws h.1)
  where
    step :
        (t : Bool) → word_fits s w ≡ t → (f : Found) → Outcome s ws f
        → Outcome s (w ∷ ws) (elim t [ true ↦ better (word_density s w) (columns_of w) f | false ↦ f ])
    step true q f r = weighed s w ws q h.0 f r
    step false q f r = skipped s w ws q f r

module _ (s : Sheet) (sound : Sound s) where
  -- the word of a column list is among the words of L letters
  word_member : (es : List ℕ) → Memᴰ (word s es) (words s.columns)
  word_member es = rw length-word at (words_complete (word s es))

  -- no word fits: no column list is an assignment
  none_answers : Outcome s (words s.columns) none → (es : List ℕ) → is_assignment s es ≡ false
  none_answers r es =
      false_from_ne_true _ (λ q. true≢false (sym (fits_word s sound es q) ∙ r (word s es) (word_member es)))

  -- the best of the words gives the best of the assignments
  found_answers : (d : ℕ) (cs : List ℕ) → FirstLeast s (words s.columns) d cs → IsBest s d cs
  found_answers d cs r = record {
    assignment = rw r.columns at (assignment_columns_of s r.one r.fitting);
    exact = r.exact;
    least = λ es h. (against es h).0;
    smallest = λ es h q. rw own ((against es h).1 q);
  }
    where
      against :
          (es : List ℕ) → is_assignment s es ≡ true
          → (d ≤ density s es) × (density s es ≡ d → no_later r.one (word s es) ≡ true)
      against es h = rw (columns_of-word s sound es h) at (r.no_worse (word s es) (word_member es) (fits_word s sound es h))

      own : word s cs ≡ r.one
      own = rw r.columns at (word-columns_of s r.one r.fitting (words-length s.columns r.one r.member))

  -- from the words to the assignments
  answers : (f : Found) → Outcome s (words s.columns) f → Answers s f
  answers none r = none_answers r
  answers (found d cs) r = found_answers d cs r

-- Demand 2: what is found is an assignment of least density, of these the one with the smallest word; or there is none
pub best_answers : (s : Sheet) → Sound s → Answers s (best s)
unfolding best
best_answers s sound = answers s sound (best s) (outcome s (words s.columns) (words_sorted s.columns))

-- there is nothing found exactly when there is no assignment
pub none_exactly : (s : Sheet) → Sound s → (best s ≡ none) ↔ ((es : List ℕ) → is_assignment s es ≡ false)
none_exactly s sound = (λ q. subst (Answers s) q (best_answers s sound), λ h. exclude h (best s) (best_answers s sound))
  where
    exclude : ((es : List ℕ) → is_assignment s es ≡ false) → (f : Found) → Answers s f → f ≡ none
    exclude h none r = refl
    exclude h (found d cs) r = absurd (true≢false (sym r.assignment ∙ h cs))
