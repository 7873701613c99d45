-- Laws of the counting: one addition for each net gives the crossings of every column.
-- Assumes nothing.
use Rattle.std.proofs.Common.{zero, ◌-◌, ◌++◌, one-add, length-take-le, get_or-take, add-sub_of_le, ◌≡◌, ℕ, suc, ◌+◌, ◌<◌, ◌≤◌, max, Bool, true, false, cond, ◌&&◌, eqb, ltb, leb, List, [], ◌∷◌, length, get_or, take, drop, fold, replicate, length-drop, get_or-drop, take-suc, sym, refl, ap, ◌∙◌, add-zero, zero-add, arith, ltb-false, ltb-true, le-ltb, lt-ltb, le-leb, leb-false, leb-true}
use Rattle.std.proofs.lemmas.Bool.{lt-leb}
use Rattle.std.proofs.lemmas.List.{get_or_append_left, get_or-append_right}
use Rattle.std.proofs.lemmas.List.Sums.{fold-append, sum_by-cons}
use Rattle.std.specs.List.{sum_by}
use borrow.Rule.Slice.PartMut.{put_mid}
use Rattle.mark.specs.declared.Mark.{Mark}
use Rattle.channel.specs.Density.{any, distinct, Pin, straight, maximum_to}
use Rattle.channel.proofs.Spans.{spans-from}
use Rattle.channel.specs.Spans.{sum_last, leftmost, rightmost, within, counts}
use Rattle.ends.specs.declared.Ends.{Ends}
use Rattle.ends.specs.Ends.{pins_of, ends_of}
use Rattle.nets.proofs.Lists.{get_or-zeros}
use Rattle.density.specs.Counted.{net_spans, counted_at, Added, Small}

-- the crossings of a column by the nets of a list, each of which stands there once
abbrev pub crossings : (ℕ → Bool) → List ℕ → ℕ
crossings f ns = sum_by (λ (n : ℕ). cond (f n) 1 0) ns

crossings_once : (f : ℕ → Bool) (ns : List ℕ) → sum_last f ns ≡ crossings f (distinct ns)
crossings_once f [] = refl
crossings_once f (n ∷ ns) = go (any (eqb n) ns) (crossings_once f ns)
  where
    go : (t : Bool) → sum_last f ns ≡ crossings f (distinct ns)
        → cond t 0 (cond (f n) 1 0) + sum_last f ns ≡ crossings f (cond t (distinct ns) (n ∷ distinct ns))
    go true e = rw zero-add e
    go false e = omega (arith, e, sum_by-cons (λ (m : ℕ). cond (f m) 1 0) n (distinct ns))

-- no column has more crossings than there are terminals
sum_most : (f : ℕ → Bool) (ns : List ℕ) → sum_last f ns ≤ length ns
sum_most f [] = omega arith
sum_most f (n ∷ ns) = go (any (eqb n) ns) (f n) (sum_most f ns)
  where
    go : (a b : Bool) → sum_last f ns ≤ length ns → cond a 0 (cond b 1 0) + sum_last f ns ≤ suc (length ns)
    go true b h = omega arith
    go false true h = omega arith
    go false false h = omega arith

-- the greatest of the columns 1 to l
pub greatest_fold :
    (l : ℕ) (xs : List ℕ) → l < length xs
    → fold (λ (most x : ℕ). max most x) 0 (take l (drop 1 xs)) ≡ maximum_to l (λ (c : ℕ). get_or xs c 0)
greatest_fold zero xs h = refl
greatest_fold (suc l) xs h =
    rw (take-suc (drop 1 xs) l 0 (rw length-drop (omega arith)), fold-append, greatest_fold l xs (omega arith), get_or-drop, one-add) (omega arith)

-- the columns from a on, before b
abbrev pub up_to : ℕ → ℕ → ℕ → Bool
up_to a b c = leb a c && ltb c b

-- a part of the counts from a on, before a + n, to each of which 1 was added
pub added_part :
    (a n : ℕ) (before part : List ℕ) → a + n ≤ length before → length part ≡ n
    → ((k : ℕ) → get_or part k 0 ≡ get_or (take n (drop a before)) k 0 + cond (ltb k n) 1 0)
    → Added 1 (up_to a (a + n)) before (put_mid a n before part)
added_part a n before part inside long added c = go (ltb c a) refl (ltb c (a + n)) refl
  where
    front : length (take a before) ≡ a
    front = length-take-le a before (omega arith)

    later : a ≤ c → get_or (put_mid a n before part) c 0 ≡ get_or (part ++ drop n (drop a before)) (c - a) 0
    later h = get_or-append_right (take a before) (part ++ drop n (drop a before)) a c 0 front h

    go : (s : Bool) → ltb c a ≡ s → (t : Bool) → ltb c (a + n) ≡ t
        → get_or (put_mid a n before part) c 0 ≡ get_or before c 0 + cond (leb a c && t) 1 0
    go true e t f =
        let h : c < a = ltb-true c a e in
        rw (lt-leb a c h, get_or_append_left (take a before) (part ++ drop n (drop a before)) 0 c (omega (arith, front)), get_or-take, add-zero)
    go false e true f =
        let h : a ≤ c = ltb-false c a e in
        let g : c - a < n = omega (arith, ltb-true c (a + n) f) in
        later h
        ∙ rw (get_or_append_left part (drop n (drop a before)) 0 (c - a) (omega (arith, long)), added (c - a))
        (rw (le-leb a c h, lt-ltb (c - a) n g, get_or-take, get_or-drop, add-sub_of_le))
    go false e false f =
        let h : a ≤ c = ltb-false c a e in
        let g : a + n ≤ c = ltb-false c (a + n) f in
        later h
        ∙ rw (get_or-append_right part (drop n (drop a before)) n (c - a) 0 long (omega arith), get_or-drop, get_or-drop)
        (rw (le-leb a c h, add-zero) (ap (λ (k : ℕ). get_or before k 0) (omega arith)))

pub added_all : (a b : ℕ) (before now : List ℕ) → Added 1 (up_to a (b + 1)) before now → Added 1 (within a b) before now
added_all a b before now added c = added c ∙ ap (λ (t : Bool). get_or before c 0 + cond (leb a c && t) 1 0) (last (leb c b) refl)
  where
    last : (t : Bool) → leb c b ≡ t → ltb c (b + 1) ≡ t
    last true e = lt-ltb c (b + 1) (omega (arith, leb-true c b e))
    last false e = le-ltb c (b + 1) (omega (arith, leb-false c b e))

-- one net is counted where it crosses: from its left end to its right end, if it crosses any column
module _ (f : ℕ → Bool) (ps : List Pin) (n : ℕ) (ends : Ends) (answer : ends ≡ ends_of n ps) (before : List ℕ) where
  by_ends : (c : ℕ) → net_spans f ps c n ≡ (counts (f n) ends.left ends.right && within ends.left ends.right c)
  by_ends c = spans-from (f n) (leftmost n ps) (rightmost n ps) c ∙ rw answer

  pub counted :
      (after : List ℕ) → counts (f n) ends.left ends.right ≡ true → Added 1 (within ends.left ends.right) before after
      → Added 1 (λ (c : ℕ). net_spans f ps c n) before after
  counted after h added c =
      let inside : net_spans f ps c n ≡ within ends.left ends.right c = by_ends c ∙ rw h in
      added c ∙ ap (λ (t : Bool). get_or before c 0 + cond t 1 0) (sym inside)

-- the counts of the nets passed, with those that the nets that are left still add, are the crossings
abbrev pub Counted : Mark → List ℕ → List ℕ → List ℕ → List ℕ → Type 0
Counted m ns cs left counts =
    (c : ℕ) → get_or counts c 0 + crossings (net_spans (straight m ns) (pins_of ns cs) c) left ≡ counted_at m ns cs c

-- at first every count is 0
pub counted_none : (m : Mark) (ns cs : List ℕ) (n : ℕ) (counts : List ℕ) → counts ≡ replicate n 0 → Counted m ns cs (distinct ns) counts
unfolding counted_at
counted_none m ns cs n counts e c =
    rw (e, get_or-zeros n c, zero-add) (sym (crossings_once (net_spans (straight m ns) (pins_of ns cs) c) ns))

module _ (m : Mark) (ns cs left counts : List ℕ) (so_far : Counted m ns cs left counts) where
  -- no count is above the number of terminals
  pub counts_small : length ns ≤ 128 → Small counts
  unfolding counted_at
  counts_small h c = omega (arith, so_far c, sum_most (net_spans (straight m ns) (pins_of ns cs) c) ns)

  -- one net more is counted
  pub counted-more :
      (n : ℕ) (rest after : List ℕ) → left ≡ n ∷ rest → Added 1 (λ (c : ℕ). net_spans (straight m ns) (pins_of ns cs) c n) counts after
      → Counted m ns cs rest after
  counted-more n rest after e added c =
      let crossed : ℕ → Bool = net_spans (straight m ns) (pins_of ns cs) c in
      let f : ℕ → ℕ = λ (k : ℕ). cond (crossed k) 1 0 in
      let here : crossings crossed left ≡ f n + crossings crossed rest
      = ap (sum_by f) e ∙ sum_by-cons f n rest in
      omega (arith, so_far c, here, added c)
