-- The load lemma: the density of a word's columns is the greatest load of the word's occupied columns.
-- Assumes nothing.
use Rattle.std.proofs.Common.{◌≡◌, ℕ, suc, ◌+◌, ◌≤◌, max, Bool, true, false, cond, ◌||◌, eqb, ltb, List, [], ◌∷◌, ◌++◌, length, take, drop, sym, refl, ap, ◌∙◌, ap₂, append_assoc, append-nil, le_trans, le_refl, add-one, arith, take-append-drop, take-add, drop-drop, le-ltb, lt-ltb, eq-eqb, ne_eqb}
use Rattle.std.proofs.Math.Bool.{or-true, or-false}
use Rattle.std.proofs.Math.Nat.{le-max_left, le-max_right}
use Rattle.std.proofs.Math.Path.{fun_ext}
use Rattle.std.proofs.lemmas.Bool.{false≢true}
use Rattle.kind.specs.declared.Kind.{Kind}
use Rattle.kind.specs.Kinds.{kind_of, leaves_left, leaves_right}
use Rattle.channel.specs.Sheet.{Terminal, Sheet, nets}
use Rattle.channel.specs.Density.{pins, straight_in, crossing, crossing_of, crosses, distinct, nets_of}
use Rattle.channel.specs.Density.{weight, weight_of, column_density, maximum_to, density}
use Rattle.channel.specs.Word.{Letter, has_top, has_bottom, columns_of}
use Rattle.channel.specs.Word.Letter.{empty, top, bottom, both}
use Rattle.channel.specs.Cut.{count, has, left_of, here_of, right_of, left_nets, here_nets}
use Rattle.channel.specs.Cut.{right_nets, crosses_cut, load, occupied, first_load, word_load}
use Rattle.channel.proofs.Pins.{Test, word_cut, any_swap}

-- the three tests of a crossing: left of column c, in it, right of it
left_of_lem : (c : ℕ) → Test (λ (k : ℕ). ltb k c) c true false false
left_of_lem c = record { left = λ k h. lt-ltb k c h; here = le-ltb c c (le_refl c); right = λ k h. le-ltb k c (omega arith) }

in_it : (c : ℕ) → Test (λ (k : ℕ). eqb k c) c false true false
in_it c =
    record {
      left = λ k h. ne_eqb k c (λ e. omega arith);
      here = eq-eqb c c refl;
      right = λ k h. ne_eqb k c (λ e. omega arith);
    }

right_of_lem : (c : ℕ) → Test (λ (k : ℕ). ltb c k) c false false true
right_of_lem c = record { left = λ k h. le-ltb c k (omega arith); here = le-ltb c c (le_refl c); right = λ k h. lt-ltb c k h }

-- of the word v ++ (a ∷ u), whose letter a stands in column suc (length u)
module _ (s : Sheet) (v : List Letter) (a : Letter) (u : List Letter)
    (tops : count has_top (v ++ a ∷ u) ≡ length s.top)
    (bottoms : count has_bottom (v ++ a ∷ u) ≡ length s.bottom) where
  -- which nets cross a letter's column
  crosses_cut_lem : (n : ℕ)
      → let i : ℕ = count has_top (a ∷ u) in
      let j : ℕ = count has_bottom (a ∷ u) in
      crosses (straight_in s) (pins (s.top ++ s.bottom) (columns_of (v ++ a ∷ u))) n (suc (length u))
      ≡ crosses_cut (straight_in s) n (left_nets s a i j) (here_nets s a i j) (right_nets s i j)
  unfolding crosses
  crosses_cut_lem n =
      let c : ℕ = suc (length u) in
      rw (
        word_cut (λ (k : ℕ). ltb k c) true false false s v a u (left_of_lem c) tops bottoms n,
        word_cut (λ (k : ℕ). eqb k c) false true false s v a u (in_it c) tops bottoms n,
        word_cut (λ (k : ℕ). ltb c k) false false true s v a u (right_of_lem c) tops bottoms n,
        or-false,
        or-false,
      )

  -- the density of a letter's column is its load
  pub column-load : column_density s (columns_of (v ++ a ∷ u)) (suc (length u)) ≡ first_load s a u
  unfolding column_density load
  column-load = ap (λ (f : ℕ → Bool). weight_of f (nets_of s)) (fun_ext crosses_cut_lem)

-- a test that holds of more nets weighs no less
weight_mono : (f g : ℕ → Bool) → ((n : ℕ) → f n ≡ true → g n ≡ true) → (ns : List ℕ) → weight_of f ns ≤ weight_of g ns
weight_mono f g h [] = le_refl 0
weight_mono f g h (n ∷ ns) = go (f n) (g n) (weight n) (h n) (weight_mono f g h ns)
  where
    go : (x y : Bool) (p : ℕ) {a b : ℕ} → (x ≡ true → y ≡ true) → a ≤ b → cond x p 0 + a ≤ cond y p 0 + b
    go true true p e k = omega arith
    go true false p e k = absurd (false≢true (e refl))
    go false y p e k = omega arith

-- one side at the next column, with a pin in it if h: left of it stands what was at or left of the column before
next-left : (h : Bool) (i : ℕ) (ns : List ℕ) → left_of h (cond h (suc i) i) ns ≡ take i ns
next-left true i ns = refl
next-left false i ns = refl

-- in it and right of it stands what was right of the column before
next_right : (h : Bool) (i : ℕ) (ns : List ℕ) → here_of h (cond h (suc i) i) ns ++ right_of (cond h (suc i) i) ns ≡ drop i ns
next_right true i ns = rw (drop-drop 1 i ns, add-one) at (take-append-drop 1 (drop i ns))
next_right false i ns = refl

-- left of it and in it stands what is at or left of it
next_here : (h : Bool) (i : ℕ) (ns : List ℕ) → left_of h (cond h (suc i) i) ns ++ here_of h (cond h (suc i) i) ns ≡ take (cond h (suc i) i) ns
next_here true i ns = rw add-one at (sym (take-add i 1 ns))
next_here false i ns = append-nil (take i ns)

-- the column of letter a, with i top and j bottom pins left of it, and so x and y at or left of it
module _ (s : Sheet) (a : Letter) (i j : ℕ) where
  abbrev x : ℕ
  x = cond (has_top a) (suc i) i

  abbrev y : ℕ
  y = cond (has_bottom a) (suc j) j

  -- an empty column just left of it has a load no greater: what crosses that one reaches left of it, and stands in this one or reaches
  -- right of it
  pub empty-left-load : load s empty i j ≤ load s a x y
  unfolding load
  empty-left-load = weight_mono _ _ more (nets_of s)
    where
      left : left_nets s a x y ≡ left_nets s empty i j
      left = rw (next-left (has_top a) i (nets s.top), next-left (has_bottom a) j (nets s.bottom))

      right : (n : ℕ) → has n (right_nets s i j) ≡ (has n (here_nets s a x y) || has n (right_nets s x y))
      right n =
          rw (← next_right (has_top a) i (nets s.top), ← next_right (has_bottom a) j (nets s.bottom))
          (rw any_swap)

      cross : (k : Kind) (counted l h r : Bool) → crossing_of k counted l false (h || r) ≡ true → crossing_of k counted l h r ≡ true
      cross k counted l h r = go (leaves_left k || l) (leaves_right k)
        where
          go : (u v : Bool) → crossing counted u false (v || (h || r)) ≡ true → crossing counted u h (v || r) ≡ true
          go true true e = rw (or-true h, or-true counted)
          go true false e = e
          go false v e = absurd (false≢true e)

      more : (n : ℕ)
          → crosses_cut (straight_in s) n (left_nets s empty i j) (here_nets s empty i j) (right_nets s i j) ≡ true
          → crosses_cut (straight_in s) n (left_nets s a x y) (here_nets s a x y) (right_nets s x y) ≡ true
      more n e =
          rw left
          (cross (kind_of n) (straight_in s n) (has n (left_nets s empty i j)) (has n (here_nets s a x y)) (has n (right_nets s x y)) (rw (right n) at e))

  -- and so has one just right of it: what crosses that one stands in this one or reaches left of it, and reaches right of it
  pub empty_right_load : load s empty x y ≤ load s a x y
  unfolding load
  empty_right_load = weight_mono _ _ more (nets_of s)
    where
      left : (n : ℕ) → has n (left_nets s empty x y) ≡ (has n (left_nets s a x y) || has n (here_nets s a x y))
      left n =
          rw (← next_here (has_top a) i (nets s.top), ← next_here (has_bottom a) j (nets s.bottom))
          (rw any_swap)

      cross : (k : Kind) (counted l h r : Bool) → crossing_of k counted (l || h) false r ≡ true → crossing_of k counted l h r ≡ true
      cross k counted l h r = go (leaves_left k) l h (leaves_right k || r)
        where
          go : (u l h v : Bool) → crossing counted (u || (l || h)) false v ≡ true → crossing counted (u || l) h v ≡ true
          go true l true v e = rw or-true
          go true l false v e = e
          go false true true v e = rw or-true
          go false true false v e = e
          go false false true true e = rw or-true
          go false false true false e = absurd (false≢true e)
          go false false false v e = e

      more : (n : ℕ)
          → crosses_cut (straight_in s) n (left_nets s empty x y) (here_nets s empty x y) (right_nets s x y) ≡ true
          → crosses_cut (straight_in s) n (left_nets s a x y) (here_nets s a x y) (right_nets s x y) ≡ true
      more n e =
          cross (kind_of n) (straight_in s n) (has n (left_nets s a x y)) (has n (here_nets s a x y)) (has n (right_nets s x y)) (rw (left n) at e)

-- so a column right of all pins has a load no greater than that of an occupied one, and with no pins at all it is 0
last-load : (s : Sheet) (w : List Letter) → count has_top w ≡ length s.top → count has_bottom w ≡ length s.bottom
    → load s empty (count has_top w) (count has_bottom w) ≤ word_load s w
unfolding load nets_of
last-load s [] h k = none _ s.top s.bottom h k
  where
    none : (f : ℕ → Bool) (ts us : List Terminal) → 0 ≡ length ts → 0 ≡ length us → weight_of f (distinct (nets (ts ++ us))) ≤ 0
    none f [] [] h k = le_refl 0
    none f [] (u ∷ us) h k = absurd (omega arith)
    none f (t ∷ ts) us h k = absurd (omega arith)
last-load s (empty ∷ w) h k = le_trans (last-load s w h k) (le-max_right 0 (word_load s w))
last-load s (top ∷ w) h k = le_trans (empty_right_load s top (count has_top w) (count has_bottom w)) (le-max_left _ (word_load s w))
last-load s (bottom ∷ w) h k = le_trans (empty_right_load s bottom (count has_top w) (count has_bottom w)) (le-max_left _ (word_load s w))
last-load s (both ∷ w) h k = le_trans (empty_right_load s both (count has_top w) (count has_bottom w)) (le-max_left _ (word_load s w))

-- the greatest load of a word's columns, the empty ones too
columns_load : Sheet → List Letter → ℕ
columns_load s [] = 0
columns_load s (a ∷ w) = max (first_load s a w) (columns_load s w)

-- an empty column adds nothing to m, where m is at least its load
first_kept : (s : Sheet) (a : Letter) (w : List Letter) (m : ℕ) → load s empty (count has_top (a ∷ w)) (count has_bottom (a ∷ w)) ≤ m
    → max m (first_load s a w) ≡ max m (cond (occupied a) (first_load s a w) 0)
first_kept s empty w m h = omega arith
first_kept s top w m h = refl
first_kept s bottom w m h = refl
first_kept s both w m h = refl

-- the greatest of three
max_assoc : (a b c : ℕ) → max (max a b) c ≡ max a (max b c)
max_assoc a b c = omega arith

-- a word's empty columns add nothing to m, where m is at least the load of an empty column just right of the word
only_occupied : (s : Sheet) (w : List Letter) (m : ℕ) → load s empty (count has_top w) (count has_bottom w) ≤ m
    → max m (columns_load s w) ≡ max m (word_load s w)
unfolding columns_load
only_occupied s [] m h = refl
only_occupied s (a ∷ w) m h =
    let new : load s empty (count has_top w) (count has_bottom w) ≤ max m (first_load s a w) =
    le_trans (empty-left-load s a (count has_top w) (count has_bottom w)) (le-max_right m (first_load s a w)) in
    simp (← max_assoc) (rw (only_occupied s w (max m (first_load s a w)) new, first_kept s a w m h))

-- the columns of the letters u of a word v ++ u
columns-load : (s : Sheet) (v u : List Letter) → count has_top (v ++ u) ≡ length s.top → count has_bottom (v ++ u) ≡ length s.bottom
    → maximum_to (length u) (column_density s (columns_of (v ++ u))) ≡ columns_load s u
unfolding columns_load
columns-load s v [] h k = refl
columns-load s v (a ∷ u) h k =
    ap₂ max (column-load s v a u h k) (rw append_assoc at (columns-load s (v ++ (a ∷ [])) u (rw append_assoc h) (rw append_assoc k)))

-- the occupied columns are some of a word's columns
occupied-columns : (s : Sheet) (w : List Letter) → word_load s w ≤ columns_load s w
unfolding columns_load
occupied-columns s [] = le_refl 0
occupied-columns s (a ∷ w) = go (occupied a) (first_load s a w) (occupied-columns s w)
  where
    go : (t : Bool) (m : ℕ) → word_load s w ≤ columns_load s w → max (cond t m 0) (word_load s w) ≤ max m (columns_load s w)
    go true m h = omega arith
    go false m h = omega arith

-- the load lemma: for every word with a pin for each terminal, the density of its columns is its load
pub density-load : (s : Sheet) (w : List Letter)
    → length w ≡ s.columns
    → count has_top w ≡ length s.top
    → count has_bottom w ≡ length s.bottom
    → density s (columns_of w) ≡ word_load s w
unfolding density
density-load s w l h k =
    let level : columns_load s w ≡ word_load s w =
    omega (arith, only_occupied s w (word_load s w) (last-load s w h k), occupied-columns s w) in
    ap (λ (c : ℕ). maximum_to c (column_density s (columns_of w))) (sym l) ∙ columns-load s [] w h k ∙ level
