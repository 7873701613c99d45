-- How far a net reaches decides which columns it crosses, and a sum over the terminals in their order counts each net once.
-- Assumes nothing.
use Rattle.std.proofs.Common.{◌≡◌, ℕ, zero, suc, ◌+◌, ◌<◌, ◌≤◌, min, max, Bool, true, false, cond, ◌&&◌, ◌||◌, eqb, ltb, leb, List, [], ◌∷◌, ◌++◌, length, sym, refl, ap, ◌∙◌, ap₂, zero-add, arith, ltb-false, le-leb, leb-true}
use Rattle.std.proofs.Math.Bool.{and-false, or_assoc, or-true, or-false}
use Rattle.std.proofs.Math.Path.{fun_ext}
use Rattle.std.proofs.lemmas.Bool.Decides.{nat_tests}
use Rattle.kind.specs.declared.Kind.{Kind}
use Rattle.kind.specs.Kinds.{kind_of, leaves_left, leaves_right, left_start, right_start}
use Rattle.kind.proofs.Starts.{left_start_lem, left-start-before, left-start-apart, right_start_lem, right-start-from, right-start-apart}
use Rattle.channel.specs.Sheet.{Sheet, all_nets}
use Rattle.channel.specs.Density.{any, Pin, pins, straight_in, crossing, crosses, distinct, nets_of, weight}
use Rattle.channel.specs.Density.{weight_of, column_density, maximum_to, density}
use Rattle.channel.specs.Spans.{net_columns, end_from, leftmost, rightmost, within, counts, spans, sum_last}
use Rattle.channel.proofs.Crossings.{crossed, crosses-columns, any_left, any_right}

-- one pick after the other over a list of columns
abbrev pub pick_from : (ℕ → ℕ → ℕ) → ℕ → List ℕ → ℕ
pick_from pick k [] = k
pick_from pick k (j ∷ ks) = pick_from pick (pick k j) ks

-- one end of a net depends on its own columns alone
pub end_columns : (pick : ℕ → ℕ → ℕ) (start n : ℕ) (ps : List Pin) → end_from pick start n ps ≡ pick_from pick start (net_columns n ps)
end_columns pick start n [] = refl
end_columns pick start n (p ∷ ps) = go (eqb p.net n) (λ k. end_columns pick k n ps)
  where
    go : (b : Bool) → ((k : ℕ) → end_from pick k n ps ≡ pick_from pick k (net_columns n ps))
        → end_from pick (cond b (pick start p.column) start) n ps
        ≡ pick_from pick start (cond b (p.column ∷ net_columns n ps) (net_columns n ps))
    go true e = e (pick start p.column)
    go false e = e start

-- a test that holds of what is picked exactly if it holds of either holds of the end exactly if it holds of some column
pick-any : (pick : ℕ → ℕ → ℕ) (f : ℕ → Bool) → ((i j : ℕ) → f (pick i j) ≡ (f i || f j))
    → (k : ℕ) (ks : List ℕ) → f (pick_from pick k ks) ≡ any f (k ∷ ks)
pick-any pick f h k [] = sym (or-false (f k))
pick-any pick f h k (j ∷ ks) = rw (pick-any pick f h (pick k j) ks, h, or_assoc)

-- the smaller of two columns is at or left of c exactly if either is; and the larger, at or right of it
leb-min : (c i j : ℕ) → leb (min i j) c ≡ (leb i c || leb j c)
leb-min c i j = grind (arith, nat_tests)

leb-max : (c i j : ℕ) → leb c (max i j) ≡ (leb c i || leb c j)
leb-max c i j = grind (arith, nat_tests)

-- likewise left of c
ltb-min : (c i j : ℕ) → ltb (min i j) c ≡ (ltb i c || ltb j c)
ltb-min c i j = ap (λ (k : ℕ). leb k c) (omega arith) ∙ leb-min c (suc i) (suc j)

-- a crossing with something on both sides, or on neither, does not ask what stands in the column
crossing_here : (counted l h i r : Bool) → (l ≡ false → h ≡ i) → (r ≡ false → h ≡ i) → crossing counted l h r ≡ crossing counted l i r
crossing_here counted true h i true e d = rw (or-true h, or-true i)
crossing_here counted true h i false e d = rw (d refl)
crossing_here counted false h i r e d = rw (e refl)

-- the least is no greater than the greatest
ends_order : (a b : ℕ) (ks : List ℕ) → a ≤ b → pick_from min a ks ≤ pick_from max b ks
ends_order a b [] h = h
ends_order a b (k ∷ ks) h = ends_order (min a k) (max b k) ks (omega arith)

-- a net of kind k with pins in the columns ks crosses c exactly if its ends do; an end that leaves the channel is in no column
crossed-span : (k : Kind) (counted : Bool) (ks : List ℕ) (c : ℕ) → 1 ≤ c → c < 255
    → crossed k counted ks c ≡ spans counted (pick_from min (left_start k) ks) (pick_from max (right_start k) ks) c
crossed-span k counted ks c low high =
    crossing_here counted _ (any (λ (j : ℕ). eqb j c) ks) (within l r c) _ at_left at_right
    ∙ ap₂ (λ (x y : Bool). crossing counted x (within l r c) y) (sym left) (sym right)
  where
    l : ℕ
    l = pick_from min (left_start k) ks

    r : ℕ
    r = pick_from max (right_start k) ks

    left : ltb l c ≡ (leaves_left k || any (λ (j : ℕ). ltb j c) ks)
    left = pick-any min (λ (j : ℕ). ltb j c) (ltb-min c) (left_start k) ks ∙ rw (left-start-before k c high low)

    right : ltb c r ≡ (leaves_right k || any (λ (j : ℕ). ltb c j) ks)
    right = pick-any max (λ (j : ℕ). ltb c j) (leb-max (suc c)) (right_start k) ks ∙ rw (right_start_lem k c high)

    -- with a pin, the left end is no further right than the right end; without one, neither is in c
    order : (ms : List ℕ)
        → let a : ℕ = pick_from min (left_start k) ms in
        let b : ℕ = pick_from max (right_start k) ms in
        (a ≡ c → c ≤ b) × (b ≡ c → a ≤ c)
    order [] = (λ e. absurd (left-start-apart k c high low e), λ e. absurd (right-start-apart k c high low e))
    order (m ∷ ms) =
        let turn = ends_order (min (left_start k) m) (max (right_start k) m) ms (omega arith) in
        (λ e. omega arith, λ e. omega arith)

    -- nothing left of c: what stands in c is the left end
    at_left : (leaves_left k || any (λ (j : ℕ). ltb j c) ks) ≡ false → any (λ (j : ℕ). eqb j c) ks ≡ within l r c
    at_left none = sym stands ∙ go (leb l c) refl
      where
        stands : leb l c ≡ any (λ (j : ℕ). eqb j c) ks
        stands =
            pick-any min (λ (j : ℕ). leb j c) (leb-min c) (left_start k) ks
            ∙ rw (left_start_lem k c high, any_left c ks, ← or_assoc, none)

        from : c ≤ l
        from = ltb-false l c (left ∙ none)

        go : (x : Bool) → leb l c ≡ x → leb l c ≡ within l r c
        go true e = rw (e, le-leb c r ((order ks).0 (omega (arith, leb-true l c e, from))))
        go false e = rw e

    -- nothing right of c: it is the right end
    at_right : (leaves_right k || any (λ (j : ℕ). ltb c j) ks) ≡ false → any (λ (j : ℕ). eqb j c) ks ≡ within l r c
    at_right none = sym stands ∙ go (leb c r) refl
      where
        stands : leb c r ≡ any (λ (j : ℕ). eqb j c) ks
        stands =
            pick-any max (λ (j : ℕ). leb c j) (leb-max c) (right_start k) ks
            ∙ rw (right-start-from k c high low, any_right c ks, ← or_assoc, none)

        to : r ≤ c
        to = ltb-false c r (right ∙ none)

        go : (x : Bool) → leb c r ≡ x → leb c r ≡ within l r c
        go true e = rw (e, le-leb l c ((order ks).1 (omega (arith, leb-true c r e, to))))
        go false e = rw (e, and-false)

-- a net that reaches from l to r crosses some column where these differ, or it is a straight wire that counts
pub counts-ends : (counted : Bool) (l r : ℕ) → counts counted l r ≡ (ltb l r || (eqb l r && counted))
counts-ends counted l r = grind (arith, nat_tests)

-- and then it crosses the columns from the one to the other
pub spans-from : (counted : Bool) (l r c : ℕ) → spans counted l r c ≡ (counts counted l r && within l r c)
spans-from counted l r c = grind (arith, nat_tests)

-- "A net crosses column c when its leftmost pin is at or left of c, its rightmost at or right of c, and some pin is not in c", where an end
-- that leaves the channel is past every column: c lies from its left end to its right end, and these differ, or it is a straight wire that
-- counts
pub crosses-span : (f : ℕ → Bool) (ps : List Pin) (n c : ℕ) → 1 ≤ c → c < 255
    → crosses f ps n c ≡ spans (f n) (leftmost n ps) (rightmost n ps) c
unfolding leftmost rightmost
crosses-span f ps n c h k =
    rw (crosses-columns f ps n c, end_columns min (left_start (kind_of n)) n ps, end_columns max (right_start (kind_of n)) n ps)
    (crossed-span (kind_of n) (f n) (net_columns n ps) c h k)

-- distinct numbers of a list are no more than the list has
pub length-distinct : (ns : List ℕ) → length (distinct ns) ≤ length ns
length-distinct [] = omega arith
length-distinct (n ∷ ns) = go (any (eqb n) ns) (length-distinct ns)
  where
    go : (b : Bool) → length (distinct ns) ≤ length ns → length (cond b (distinct ns) (n ∷ distinct ns)) ≤ length (n ∷ ns)
    go true h = omega arith
    go false h = omega arith

-- "Each net counts once in a column, however many pins it has": to count each net of a list once is to count it where it occurs last
pub weight-last : (f : ℕ → Bool) (ns : List ℕ) → weight_of f (distinct ns) ≡ sum_last f ns
weight-last f [] = refl
weight-last f (n ∷ ns) = go (any (eqb n) ns) (weight-last f ns)
  where
    go : (b : Bool) → weight_of f (distinct ns) ≡ sum_last f ns
        → weight_of f (cond b (distinct ns) (n ∷ distinct ns)) ≡ cond b 0 (cond (f n) (weight n) 0) + sum_last f ns
    go true e = rw zero-add e
    go false e = rw e

-- a column's density is a sum over the terminals in their order, top then bottom
pub column-last : (s : Sheet) (cs : List ℕ) (c : ℕ)
    → column_density s cs c ≡ sum_last (λ (n : ℕ). crosses (straight_in s) (pins (s.top ++ s.bottom) cs) n c) (all_nets s)
unfolding column_density nets_of
column-last s cs c = weight-last (λ (n : ℕ). crosses (straight_in s) (pins (s.top ++ s.bottom) cs) n c) (all_nets s)

-- and the density is the greatest of these sums
pub density-last : (s : Sheet) (cs : List ℕ)
    → density s cs
    ≡ maximum_to s.columns (λ (c : ℕ). sum_last (λ (n : ℕ). crosses (straight_in s) (pins (s.top ++ s.bottom) cs) n c) (all_nets s))
unfolding density
density-last s cs = ap (maximum_to s.columns) (fun_ext (column-last s cs))

-- a maximum over the columns 1 to l depends on these columns alone
maximum_same : (l : ℕ) (f g : ℕ → ℕ) → ((c : ℕ) → 1 ≤ c → c ≤ l → f c ≡ g c) → maximum_to l f ≡ maximum_to l g
maximum_same zero f g h = refl
maximum_same (suc l) f g h = ap₂ max (h (suc l) (omega arith) (omega arith)) (maximum_same l f g (λ c p q. h c p (omega arith)))

-- the same from the nets' ends, on a channel of less than 255 columns
pub density-spans : (s : Sheet) (cs : List ℕ) → s.columns < 255
    → let ps : List Pin = pins (s.top ++ s.bottom) cs in
    density s cs
    ≡ maximum_to s.columns (λ (c : ℕ). sum_last (λ (n : ℕ). spans (straight_in s n) (leftmost n ps) (rightmost n ps) c) (all_nets s))
density-spans s cs h =
    let ps : List Pin = pins (s.top ++ s.bottom) cs in
    density-last s cs
    ∙ maximum_same s.columns _ _
    (λ c p q. ap (λ (f : ℕ → Bool). sum_last f (all_nets s)) (fun_ext (λ n. crosses-span (straight_in s) ps n c p (omega arith))))
