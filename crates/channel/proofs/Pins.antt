-- The columns of a word rise from the left, and a word's pins split at a column into those left of it, in it and right of it.
-- Assumes nothing.
use Rattle.std.proofs.Common.{◌≡◌, ℕ, suc, ◌+◌, ◌<◌, ◌≤◌, Bool, true, false, cond, ◌&&◌, ◌||◌, eqb, List, [], ◌∷◌, ◌++◌, length, take, drop, sym, refl, ◌∙◌, append_assoc, append-nil, le_refl, add-one, arith, length-append, length-drop, length-take, drop-drop, take_at, drop_at}
use Rattle.std.proofs.Math.Bool.{or_assoc, or-true, and-true, and-false, and-or_distrib_left}
use Rattle.std.proofs.lemmas.List.{take-map, drop-map}
use Rattle.channel.specs.Sheet.{Terminal, Sheet, nets}
use Rattle.channel.specs.Density.{any, pins, some_pin}
use Rattle.channel.specs.Word.{Letter, has_top, has_bottom, columns_with, columns_of}
use Rattle.channel.specs.Cut.{count, has, left_of, here_of, right_of, left_nets, here_nets, right_nets}
use Rattle.channel.proofs.Columns.{Rises, rises_bound, any_append}

-- columns that rise up to l, with columns after them that rise from there
rises_append : (b l m : ℕ) (xs ys : List ℕ) → Rises b xs l → Rises l ys m → Rises b (xs ++ ys) m
rises_append b l m [] [] h r = omega arith
rises_append b l m [] (y ∷ ys) h r = (omega arith, r.1)
rises_append b l m (x ∷ xs) ys h r = (h.0, rises_append x l m xs ys h.1 r)

-- the column just after l, if there is a pin in it
rises_here : (h : Bool) (l : ℕ) → Rises l (cond h (suc l ∷ []) []) (suc l)
rises_here true l = (le_refl (suc l), le_refl (suc l))
rises_here false l = omega arith

-- of a word v ++ u: the columns that v's letters stand in
record Later (f : Letter → Bool) (v u : List Letter) : Type 0 where
  columns : List ℕ
  split : columns_with f (v ++ u) ≡ columns_with f u ++ columns
  rises : Rises (length u) columns (length (v ++ u))

-- of a word v ++ u, v's columns come after u's
later : (f : Letter → Bool) (v u : List Letter) → Later f v u
later f [] u = record { columns = []; split = sym (append-nil (columns_with f u)); rises = le_refl (length u) }
later f (a ∷ v) u =
    let r : Later f v u = later f v u in
    let l : ℕ = length (v ++ u) in
    let new : List ℕ = cond (f a) (suc l ∷ []) [] in
    record {
      columns = r.columns ++ new;
      split = rw (r.split, append_assoc);
      rises = rises_append (length u) l (suc l) r.columns new r.rises (rises_here (f a) l);
    }

-- a word's columns rise from 1 to its length
pub word_rises : (f : Letter → Bool) (w : List Letter) → Rises 0 (columns_with f w) (length w)
word_rises f w =
    let r : Later f w [] = later f w [] in
    rw append-nil at (rw (← r.split) at r.rises)

-- a word has as many columns as letters that f holds of
pub length-columns : (f : Letter → Bool) (w : List Letter) → length (columns_with f w) ≡ count f w
length-columns f [] = refl
length-columns f (a ∷ w) = rw (length-append, length-columns f w) (one_more (f a))
  where
    one_more : (h : Bool) → count f w + length (cond h (suc (length w) ∷ []) []) ≡ cond h (suc (count f w)) (count f w)
    one_more true = omega arith
    one_more false = omega arith

-- pins of columns xs ++ ys: the first terminals stand in xs, those after them in ys
pins-append : (ts : List Terminal) (xs ys : List ℕ) → pins ts (xs ++ ys) ≡ pins (take (length xs) ts) xs ++ pins (drop (length xs) ts) ys
pins-append ts [] ys = refl
pins-append [] (x ∷ xs) ys = refl
pins-append (t ∷ ts) (x ∷ xs) ys = rw (pins-append ts xs ys)

-- where the test f is x in every column: some pin of net n passes it if x is true and n is one of the nets
some_pin_same : (f : ℕ → Bool) (n : ℕ) (x : Bool) (b l : ℕ) (ts : List Terminal) (cs : List ℕ)
    → Rises b cs l
    → length ts ≤ length cs
    → ((c : ℕ) → b < c → c ≤ l → f c ≡ x)
    → some_pin f n (pins ts cs) ≡ (x && has n (nets ts))
some_pin_same f n x b l [] cs r h e = sym (and-false x)
some_pin_same f n x b l (t ∷ ts) [] r h e = absurd (omega arith)
some_pin_same f n x b l (t ∷ ts) (c ∷ cs) r h e =
    rw (e c r.0 (rises_bound c cs l r.1), some_pin_same f n x c l ts cs r.1 (omega arith) (λ d p. e d (omega arith)))
    (go x (eqb t.net n) (has n (nets ts)))
  where
    go : (x y z : Bool) → (y && x || x && z) ≡ (x && (y || z))
    go true y z = rw and-true
    go false y z = rw and-false

-- pins left of column c, in it if h, and right of it
pins-cut : (h : Bool) (c : ℕ) (ts : List Terminal) (xs ys : List ℕ)
    → let i : ℕ = cond h (suc (length xs)) (length xs) in
    pins ts ((xs ++ cond h (c ∷ []) []) ++ ys)
    ≡ pins (left_of h i ts) xs ++ (pins (here_of h i ts) (cond h (c ∷ []) []) ++ pins (right_of i ts) ys)
pins-cut true c ts xs ys = rw (append_assoc, pins-append ts xs, pins-append (drop (length xs) ts) (c ∷ []) ys, drop-drop, add-one)
pins-cut false c ts xs ys = rw (append-nil, pins-append ts xs ys)

-- no stretch has more terminals than columns
lengths_cut : (h : Bool) (c : ℕ) (ts : List Terminal) (xs ys : List ℕ) → length ts ≤ length ((xs ++ cond h (c ∷ []) []) ++ ys)
    → let i : ℕ = cond h (suc (length xs)) (length xs) in
    (length (left_of h i ts) ≤ length xs)
    × (length (here_of h i ts) ≤ length (cond {A = List ℕ} h (c ∷ []) []))
    × (length (right_of i ts) ≤ length ys)
lengths_cut true c ts xs ys e =
    let k : length ts ≤ length xs + 1 + length ys = simp length-append at e in
    simp (length-take, length-drop) (omega arith)
lengths_cut false c ts xs ys e =
    let k : length ts ≤ length xs + 0 + length ys = simp length-append at e in
    simp (length-take, length-drop) (omega arith)

-- the nets of a stretch are that stretch of the nets
nets_here : (h : Bool) (i : ℕ) (ts : List Terminal) → nets (here_of h i ts) ≡ here_of h i (nets ts)
nets_here true i ts = rw (drop-map, take-map)
nets_here false i ts = refl

-- a test of columns with one value left of a column, one in it and one right of it
pub record Test (f : ℕ → Bool) (c : ℕ) (x y z : Bool) : Type 0 where
  pub left : (k : ℕ) → k < c → f k ≡ x
  pub here : f c ≡ y
  pub right : (k : ℕ) → c < k → f k ≡ z

-- whether one side has a pin of net n that passes the test, from the nets left of the column, in it and right of it
some_pin-cut : (f : ℕ → Bool) (c m : ℕ) (x y z : Bool) → Test f (suc c) x y z
    → (h : Bool) (ts : List Terminal) (xs ys : List ℕ)
    → Rises 0 xs c
    → Rises (suc c) ys m
    → length ts ≤ length ((xs ++ cond h (suc c ∷ []) []) ++ ys)
    → (n : ℕ)
    → let i : ℕ = cond h (suc (length xs)) (length xs) in
    some_pin f n (pins ts ((xs ++ cond h (suc c ∷ []) []) ++ ys))
    ≡ (x && has n (left_of h i (nets ts)) || (y && has n (here_of h i (nets ts)) || z && has n (right_of i (nets ts))))
some_pin-cut f c m x y z test h ts xs ys r q e n =
    let (in_left, in-here, in_right) = lengths_cut h (suc c) ts xs ys e in
    let i : ℕ = cond h (suc (length xs)) (length xs) in
    let here : (k : ℕ) → c < k → k ≤ suc c → f k ≡ y = λ k p s. (let same : k ≡ suc c = omega arith in rw same test.here) in
    rw (
      pins-cut h (suc c) ts xs ys,
      any_append,
      any_append,
      some_pin_same f n x 0 c (left_of h i ts) xs r in_left (λ k p s. test.left k (omega arith)),
      some_pin_same f n y c (suc c) (here_of h i ts) (cond h (suc c ∷ []) []) (rises_here h c) in-here here,
      some_pin_same f n z (suc c) m (right_of i ts) ys q in_right (λ k p s. test.right k p),
      take-map,
      nets_here,
      drop-map (λ (t : Terminal). t.net) i ts,
    )

-- the same of the word v ++ (a ∷ u), whose letter a stands in column suc (length u)
side_cut : (f : ℕ → Bool) (x y z : Bool) (v : List Letter) (a : Letter) (u : List Letter) → Test f (suc (length u)) x y z
    → (side : Letter → Bool) (ts : List Terminal)
    → count side (v ++ a ∷ u) ≡ length ts
    → (n : ℕ)
    → let i : ℕ = count side (a ∷ u) in
    some_pin f n (pins ts (columns_with side (v ++ a ∷ u)))
    ≡ (x && has n (left_of (side a) i (nets ts)) || (y && has n (here_of (side a) i (nets ts)) || z && has n (right_of i (nets ts))))
side_cut f x y z v a u test side ts e n =
    let r : Later side v (a ∷ u) = later side v (a ∷ u) in
    let xs : List ℕ = columns_with side u in
    let l : length ts ≤ length ((xs ++ cond (side a) (suc (length u) ∷ []) []) ++ r.columns) =
    rw (← r.split, length-columns) (omega arith) in
    let cut = some_pin-cut f (length u) (length (v ++ a ∷ u)) x y z test (side a) ts xs r.columns (word_rises side u) r.rises l n in
    rw r.split (rw (length-columns side u) at cut)

-- a sheet's pins in a word's columns are those of its two sides
sheet-pins : (f : ℕ → Bool) (n : ℕ) (s : Sheet) (w : List Letter) → count has_top w ≡ length s.top
    → some_pin f n (pins (s.top ++ s.bottom) (columns_of w))
    ≡ (some_pin f n (pins s.top (columns_with has_top w)) || some_pin f n (pins s.bottom (columns_with has_bottom w)))
unfolding columns_of
sheet-pins f n s w e =
    let l : length s.top ≡ length (columns_with has_top w) = sym (length-columns has_top w ∙ e) in
    rw (pins-append (s.top ++ s.bottom) (columns_with has_top w), take_at, drop_at, any_append)

-- of three tests, the first two change places
or-left_comm : (a b c : Bool) → (a || (b || c)) ≡ (b || (a || c))
or-left_comm true b c = sym (or-true b)
or-left_comm false b c = refl

-- of two lists in two parts each: a test of the first parts and one of the second parts
pub any_swap {ℓ} : {A : Type ℓ} (f : A → Bool) (ws xs ys zs : List A)
    → any f ((ws ++ xs) ++ (ys ++ zs)) ≡ (any f (ws ++ ys) || any f (xs ++ zs))
any_swap f ws xs ys zs = simp (any_append, or_assoc, or-left_comm)

-- of two sides with three parts each: the two left parts, the two in the column, the two right parts
sides_swap : (x y z l h r k i q : Bool)
    → (x && l || (y && h || z && r) || (x && k || (y && i || z && q))) ≡ (x && (l || k) || (y && (h || i) || z && (r || q)))
sides_swap x y z l h r k i q = simp (and-or_distrib_left, or_assoc, or-left_comm)

-- what side_cut says, of both sides together
pub word_cut : (f : ℕ → Bool) (x y z : Bool) (s : Sheet) (v : List Letter) (a : Letter) (u : List Letter) → Test f (suc (length u)) x y z
    → count has_top (v ++ a ∷ u) ≡ length s.top
    → count has_bottom (v ++ a ∷ u) ≡ length s.bottom
    → (n : ℕ)
    → let i : ℕ = count has_top (a ∷ u) in
    let j : ℕ = count has_bottom (a ∷ u) in
    some_pin f n (pins (s.top ++ s.bottom) (columns_of (v ++ a ∷ u)))
    ≡ (x && has n (left_nets s a i j) || (y && has n (here_nets s a i j) || z && has n (right_nets s i j)))
word_cut f x y z s v a u test e d n =
    rw (
      sheet-pins f n s (v ++ a ∷ u) e,
      side_cut f x y z v a u test has_top s.top e n,
      side_cut f x y z v a u test has_bottom s.bottom d n,
      sides_swap,
    ) (simp any_append)
