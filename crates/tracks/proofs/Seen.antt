-- The scan of the pins for two nets in one column, with an array of the net last seen in each column.
-- Assumes nothing.
use Rattle.std.proofs.Common.{ℕ, ◌+◌, ◌<◌, arith, ◌≡◌, refl, sym, ap, ◌∙◌, List, [], ◌∷◌, ◌⊎◌, inl, inr, Bool, true, false, not, ◌&&◌, ◌||◌, true≢false, length, get_or, set, replicate, length-set, get_or-set_same, get_or-set_other, eqb, eqb-true, eq-eqb, ne_eqb}
use Rattle.std.proofs.Math.Bool.{or_assoc, or-false, or-true}
use Rattle.std.proofs.Math.Decide.{ℕ_discrete}
use Rattle.std.proofs.lemmas.Bool.{eqb-false}
use Rattle.channel.specs.Density.{any, Pin}
use Rattle.nets.proofs.Lists.{get_or-zeros}
use Rattle.ends.specs.Ends.{pins_of}
use Rattle.left_edge.specs.Lists.{Each}
use Rattle.left_edge.specs.Spans.{differ, two_nets}
use Rattle.left_edge.proofs.Lists.{each_all}

-- a pin of another net was seen in the pin's column; a net stands there as one more than its number, and 0 is none
abbrev hit : List ℕ → Pin → Bool
hit seen p = not (eqb (get_or seen p.column 0) 0) && not (eqb (get_or seen p.column 0) (p.net + 1))

-- such a pin comes, where each pin takes the place of the one seen before it
abbrev pub comes : List ℕ → List Pin → Bool
comes seen [] = false
comes seen (p ∷ ps) = hit seen p || comes (set seen p.column (p.net + 1)) ps

any-or : {A : Type 0} (f g h : A → Bool) (xs : List A) → Each (λ (x : A). f x ≡ (g x || h x)) xs → any f xs ≡ (any g xs || any h xs)
any-or f g h [] e = refl
any-or f g h (x ∷ xs) e = rw (e.0, any-or f g h xs e.1) (four (g x) (h x) (any g xs) (any h xs))
  where
    four : (a b c d : Bool) → ((a || b) || (c || d)) ≡ ((a || c) || (b || d))
    four true b c d = refl
    four false true c d = rw (or-true c)
    four false false c d = refl

eqb-next : (a b : ℕ) → eqb (a + 1) (b + 1) ≡ eqb a b
eqb-next a b = go (eqb a b) refl
  where
    go : (x : Bool) → eqb a b ≡ x → eqb (a + 1) (b + 1) ≡ x
    go true e = eq-eqb (a + 1) (b + 1) (omega (arith, eqb-true a b e))
    go false e = ne_eqb (a + 1) (b + 1) (λ q. eqb-false a b e (omega (arith, q)))

-- where net m finds nothing of another net before it, net n finds one behind it exactly if it would have without m, or is another than m
found-behind : (a m n : ℕ) → (not (eqb a 0) && not (eqb a (m + 1))) ≡ false
    → (not (eqb (m + 1) 0) && not (eqb (m + 1) (n + 1))) ≡ ((not (eqb a 0) && not (eqb a (n + 1))) || not (eqb m n))
found-behind a m n clear = rw (ne_eqb (m + 1) 0 (λ q. omega (arith, q)), eqb-next m n) (go (eqb a 0) refl (eqb a (m + 1)) refl clear)
  where
    go : (x : Bool) → eqb a 0 ≡ x → (y : Bool) → eqb a (m + 1) ≡ y → (not x && not y) ≡ false
        → not (eqb m n) ≡ ((not x && not (eqb a (n + 1))) || not (eqb m n))
    go true e y d h = refl
    go false e true d h =
        rw (eqb-true a (m + 1) d, eqb-next m n) (twice (not (eqb m n)))
      where
        twice : (b : Bool) → b ≡ (b || b)
        twice true = refl
        twice false = refl
    go false e false d h = absurd (true≢false h)

-- a column of the array
abbrev pub Column : Pin → Type 0
Column p = p.column < 256

-- where pin p hits nothing, a later pin hits p, or what it would have hit without p
hit-next :
    (seen : List ℕ) → length seen ≡ 256 → (p : Pin) → Column p → hit seen p ≡ false → (o : Pin)
    → hit (set seen p.column (p.net + 1)) o ≡ (hit seen o || differ p o)
hit-next seen long p fits clear o = go (ℕ_discrete o.column p.column)
  where
    go : Dec (o.column ≡ p.column) → hit (set seen p.column (p.net + 1)) o ≡ (hit seen o || differ p o)
    go (yes e) =
        rw (e, get_or-set_same seen p.column (p.net + 1) 0 (omega (arith, long, fits)), eq-eqb p.column p.column refl)
        (found-behind (get_or seen p.column 0) p.net o.net clear)
    go (no e) =
        rw (get_or-set_other seen p.column o.column (p.net + 1) 0 e, ne_eqb p.column o.column (λ q. e (sym q)))
        (sym (or-false (hit seen o)))

-- a pin of another net comes exactly if one hits what was seen, or two of the pins differ
comes_exactly : (seen : List ℕ) → length seen ≡ 256 → (ps : List Pin) → Each Column ps → comes seen ps ≡ (any (hit seen) ps || two_nets ps)
comes_exactly seen long [] h = refl
comes_exactly seen long (p ∷ ps) h =
    go (hit seen p) refl (comes_exactly (set seen p.column (p.net + 1)) (length-set seen _ _ ∙ long) ps h.1)
  where
    go : (b : Bool) → hit seen p ≡ b
        → comes (set seen p.column (p.net + 1)) ps ≡ (any (hit (set seen p.column (p.net + 1))) ps || two_nets ps)
        → (b || comes (set seen p.column (p.net + 1)) ps) ≡ ((b || any (hit seen) ps) || (any (differ p) ps || two_nets ps))
    go true e r = refl
    go false e r =
        r
        ∙ ap (λ (b : Bool). b || two_nets ps)
        (any-or _ (hit seen) (differ p) ps (each_all _ ps (hit-next seen long p h.0 e)))
        ∙ or_assoc (any (hit seen) ps) (any (differ p) ps) (two_nets ps)

none-hit : (ps : List Pin) → any (hit (replicate 256 0)) ps ≡ false
none-hit [] = refl
none-hit (p ∷ ps) = rw (get_or-zeros 256 p.column) (none-hit ps)

-- at first nothing was seen
pub comes-first : (ps : List Pin) → Each Column ps → comes (replicate 256 0) ps ≡ two_nets ps
comes-first ps h = comes_exactly (replicate 256 0) refl ps h ∙ rw (none-hit ps)

pub columns_fit : (ns cs : List ℕ) → Each (λ (c : ℕ). c < 256) cs → Each Column (pins_of ns cs)
columns_fit [] cs h = tt
columns_fit (n ∷ ns) [] h = tt
columns_fit (n ∷ ns) (c ∷ cs) h = (h.0, columns_fit ns cs h.1)

-- no pin comes once the nets or the columns have ended
pub comes_end : (found : Bool) (seen ns cs : List ℕ) → (length ns ≡ 0) ⊎ (length cs ≡ 0) → (found || comes seen (pins_of ns cs)) ≡ found
comes_end found seen [] cs e = or-false found
comes_end found seen (n ∷ ns) [] e = or-false found
comes_end found seen (n ∷ ns) (c ∷ cs) (inl e) = absurd (omega arith)
comes_end found seen (n ∷ ns) (c ∷ cs) (inr e) = absurd (omega arith)
