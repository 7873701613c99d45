-- What document 01 says of crossing ("Column, crossing, density") and document 02 of leaving nets (T-03): nets that cross nothing, what a
-- leaving net crosses, and the density with no terminals.
-- Assumes nothing.
use Rattle.std.proofs.Common.{◌≡◌, ℕ, zero, suc, Bool, true, false, cond, ◌&&◌, ◌||◌, eqb, ltb, leb, List, [], ◌∷◌, ◌++◌, length, refl, arith}
use Rattle.std.proofs.Math.Bool.{and-true, or_comm, or_self, or-true, or-false}
use Rattle.std.proofs.lemmas.Bool.Decides.{nat_tests}
use Rattle.kind.specs.declared.Kind.{Kind}
use Rattle.kind.specs.declared.Kind.TheVariants.{Plain, Left, Right, BothEnds}
use Rattle.kind.specs.Kinds.{kind_of}
use Rattle.channel.specs.Sheet.{Terminal, Sheet, nets}
use Rattle.channel.specs.Density.{any, Pin, pins, some_pin, crossing, crossing_of, crosses, distinct, nets_of}
use Rattle.channel.specs.Density.{column_density, maximum_to, density}
use Rattle.channel.specs.Cut.{has}
use Rattle.channel.specs.Spans.{net_columns}

-- a net has a pin that passes a test exactly if one of its columns passes it
pub some_pin-columns : (f : ℕ → Bool) (n : ℕ) (ps : List Pin) → some_pin f n ps ≡ any f (net_columns n ps)
some_pin-columns f n [] = refl
some_pin-columns f n (p ∷ ps) = rw (some_pin-columns f n ps) (go (eqb p.net n))
  where
    go : (b : Bool) → (b && f p.column || any f (net_columns n ps)) ≡ any f (cond b (p.column ∷ net_columns n ps) (net_columns n ps))
    go true = refl
    go false = refl

-- a crossing, of a net's kind, whether it is a straight wire that counts, and the columns of its pins
abbrev pub crossed : Kind → Bool → List ℕ → ℕ → Bool
crossed k counted ks c =
    crossing_of k counted (any (λ (j : ℕ). ltb j c) ks) (any (λ (j : ℕ). eqb j c) ks) (any (λ (j : ℕ). ltb c j) ks)

-- whether a net crosses a column depends on its own columns alone, and on whether it is such a wire
pub crosses-columns : (f : ℕ → Bool) (ps : List Pin) (n c : ℕ) → crosses f ps n c ≡ crossed (kind_of n) (f n) (net_columns n ps) c
unfolding crosses
crosses-columns f ps n c =
    rw (
      some_pin-columns (λ (k : ℕ). ltb k c) n ps,
      some_pin-columns (λ (k : ℕ). eqb k c) n ps,
      some_pin-columns (λ (k : ℕ). ltb c k) n ps,
    )

-- one column stands on one side of c alone, or in it
one_column : (counted : Bool) (k c : ℕ) → crossing counted (ltb k c) (eqb k c) (ltb c k) ≡ (counted && eqb k c)
one_column counted k c = grind (arith, nat_tests)

-- "A net with one pin crosses nothing, and takes no track", if it is plain; no such net is a straight wire
pub one_pin : (f : ℕ → Bool) (ps : List Pin) (n : ℕ) → kind_of n ≡ Plain → f n ≡ false → length (net_columns n ps) ≡ 1
    → (c : ℕ) → crosses f ps n c ≡ false
one_pin f ps n plain single e c = rw (crosses-columns f ps n c, plain, single) (go (net_columns n ps) e)
  where
    go : (ks : List ℕ) → length ks ≡ 1 → crossed Plain false ks c ≡ false
    go [] d = refl
    go (k ∷ []) d = simp (or-false, one_column false k c)
    go (k ∷ j ∷ ks) d = absurd (omega arith)

-- a net with exactly two pins, both in c, crosses c alone if it counts as a straight wire, and nothing if it does not; if it is plain
pub two_pins : (f : ℕ → Bool) (ps : List Pin) (n c : ℕ) → kind_of n ≡ Plain → net_columns n ps ≡ c ∷ c ∷ []
    → (k : ℕ) → crosses f ps n k ≡ (f n && eqb c k)
two_pins f ps n c plain e k = rw (crosses-columns f ps n k, plain, e) (simp (or-false, or_self, one_column (f n) c k))

-- at or left of c is left of it or in it; and at or right of it
leb-left : (c k : ℕ) → leb k c ≡ (ltb k c || eqb k c)
leb-left c k = grind (arith, nat_tests)

leb_right : (c k : ℕ) → leb c k ≡ (ltb c k || eqb k c)
leb_right c k = grind (arith, nat_tests)

-- some column meets one of two tests exactly if some column meets the first, or one meets the second
any-or : (f g h : ℕ → Bool) → ((k : ℕ) → f k ≡ (g k || h k)) → (ks : List ℕ) → any f ks ≡ (any g ks || any h ks)
any-or f g h split [] = refl
any-or f g h split (k ∷ ks) = rw (split k, any-or f g h split ks) (go (g k) (h k) (any g ks) (any h ks))
  where
    go : (x y u v : Bool) → ((x || y) || (u || v)) ≡ ((x || u) || (y || v))
    go true y u v = refl
    go false true true v = refl
    go false true false v = refl
    go false false u v = refl

-- some column is at or left of c exactly if one is left of it or one is in it; and at or right of it
pub any_left : (c : ℕ) (ks : List ℕ) → any (λ (k : ℕ). leb k c) ks ≡ (any (λ (k : ℕ). ltb k c) ks || any (λ (k : ℕ). eqb k c) ks)
any_left c ks = any-or (λ (k : ℕ). leb k c) (λ (k : ℕ). ltb k c) (λ (k : ℕ). eqb k c) (leb-left c) ks

pub any_right : (c : ℕ) (ks : List ℕ) → any (λ (k : ℕ). leb c k) ks ≡ (any (λ (k : ℕ). ltb c k) ks || any (λ (k : ℕ). eqb k c) ks)
any_right c ks = any-or (λ (k : ℕ). leb c k) (λ (k : ℕ). ltb c k) (λ (k : ℕ). eqb k c) (leb_right c) ks

-- a net that leaves at the left crosses exactly the columns that have a pin of it at or right of them
pub left-leaving : (f : ℕ → Bool) (ps : List Pin) (n c : ℕ) → kind_of n ≡ Left → crosses f ps n c ≡ some_pin (λ (k : ℕ). leb c k) n ps
left-leaving f ps n c left =
    rw (crosses-columns f ps n c, left, or-true, and-true, some_pin-columns (λ (k : ℕ). leb c k) n ps, any_right c (net_columns n ps))
    (or_comm (any (λ (k : ℕ). eqb k c) (net_columns n ps)) (any (λ (k : ℕ). ltb c k) (net_columns n ps)))

-- one that leaves at the right, exactly those that have a pin of it at or left of them
pub right_leaving : (f : ℕ → Bool) (ps : List Pin) (n c : ℕ) → kind_of n ≡ Right → crosses f ps n c ≡ some_pin (λ (k : ℕ). leb k c) n ps
right_leaving f ps n c right =
    rw (
      crosses-columns f ps n c,
      right,
      or-true,
      or-true,
      or-true,
      and-true,
      some_pin-columns (λ (k : ℕ). leb k c) n ps,
      any_left c (net_columns n ps),
    )

-- and one that leaves at both ends, every column
pub both_ends_leaving : (f : ℕ → Bool) (ps : List Pin) (n c : ℕ) → kind_of n ≡ BothEnds → crosses f ps n c ≡ true
unfolding crosses
both_ends_leaving f ps n c both = rw (both, or-true, or-true)

-- "counts even in a column holding all its pins": a net that is not plain crosses every column that it stands in
pub leaving_here : (f : ℕ → Bool) (ps : List Pin) (n c : ℕ) → (kind_of n ≡ Plain → ⊥) → some_pin (λ (k : ℕ). eqb k c) n ps ≡ true
    → crosses f ps n c ≡ true
unfolding crosses
leaving_here f ps n c leaves here = rw here (go (kind_of n) leaves (f n) _ _)
  where
    go : (k : Kind) → (k ≡ Plain → ⊥) → (counted l r : Bool) → crossing_of k counted l true r ≡ true
    go Plain h counted l r = absurd (h refl)
    go Left h counted l r = rw or-true
    go Right h counted l r = rw (or-true, or-true)
    go BothEnds h counted l r = rw or-true

-- a net that counts has a pin: the nets of a sheet stand in every list of p+q columns
pub net_stands : (s : Sheet) (cs : List ℕ) (n : ℕ) → length cs ≡ length (s.top ++ s.bottom) → has n (nets_of s) ≡ true
    → some_pin (λ (k : ℕ). true) n (pins (s.top ++ s.bottom) cs) ≡ true
unfolding nets_of
net_stands s cs n size h = pin (s.top ++ s.bottom) cs size (among (nets (s.top ++ s.bottom)) h)
  where
    among : (ns : List ℕ) → has n (distinct ns) ≡ true → has n ns ≡ true
    among [] e = e
    among (m ∷ ns) e = go (any (eqb m) ns) (eqb m n) refl e (among ns)
      where
        go : (again x : Bool) → eqb m n ≡ x → has n (cond again (distinct ns) (m ∷ distinct ns)) ≡ true
            → (has n (distinct ns) ≡ true → has n ns ≡ true)
            → (x || has n ns) ≡ true
        go again true d e rest = refl
        go true false d e rest = rest e
        go false false d e rest = rest (rw d at e)

    pin : (ts : List Terminal) (ks : List ℕ) → length ks ≡ length ts → has n (nets ts) ≡ true
        → some_pin (λ (k : ℕ). true) n (pins ts ks) ≡ true
    pin [] ks e h = h
    pin (t ∷ ts) [] e h = absurd (omega arith)
    pin (t ∷ ts) (k ∷ ks) e h = go (eqb t.net n) h (pin ts ks (omega arith))
      where
        go : (x : Bool) → (x || has n (nets ts)) ≡ true
            → (has n (nets ts) ≡ true → some_pin (λ (k : ℕ). true) n (pins ts ks) ≡ true)
            → (x && true || some_pin (λ (k : ℕ). true) n (pins ts ks)) ≡ true
        go true d rest = refl
        go false d rest = rest d

-- where every column has none, the maximum is 0
maximum_none : (l : ℕ) (f : ℕ → ℕ) → ((c : ℕ) → f c ≡ 0) → maximum_to l f ≡ 0
maximum_none zero f h = refl
maximum_none (suc l) f h = rw (h (suc l), maximum_none l f h)

-- "Density is the maximum over columns 1 to L, and 0 with no terminals"
pub no_terminals_lem : (s : Sheet) (cs : List ℕ) → s.top ≡ [] → s.bottom ≡ [] → density s cs ≡ 0
unfolding density column_density nets_of
no_terminals_lem s cs e d = maximum_none s.columns (column_density s cs) (λ c. rw (e, d))
