-- The lowest free track, where an array holds how far right each track is used: 0 where it is not used yet.
-- Assumes nothing.
use Rattle.std.proofs.Common.{ℕ, suc, ◌+◌, ◌≤◌, ◌<◌, arith, ◌≡◌, refl, sym, ap, ◌∙◌, List, [], ◌∷◌, Bool, true, false, cond, length, get_or, set, replicate, length-set, ltb, ltb-true, ltb-false, lt-ltb, le-ltb, leb, leb-true, leb-false, ne_eqb}
use Rattle.std.specs.List.{prefix_len}
use Rattle.nets.proofs.Lists.{get_or-zeros}
use Rattle.left_edge.specs.declared.Interval.{Interval}
use Rattle.left_edge.specs.Lists.{Each}
use Rattle.left_edge.specs.Method.{passed, place, track_on, step, left_edge_from, left_edge}
use Rattle.left_edge.proofs.Method.{passed_free, passed-reach, step_at_lem}

-- the tracks passed are those in front that reach the column
pub passed-prefix : (es : List ℕ) (l : ℕ) → prefix_len (λ (e : ℕ). leb l e) es ≡ passed es l
passed-prefix [] l = refl
passed-prefix (e ∷ es) l = go (leb l e) refl (passed-prefix es l)
  where
    go : (t : Bool) → leb l e ≡ t → prefix_len (λ (x : ℕ). leb l x) es ≡ passed es l
        → prefix_len (λ (x : ℕ). leb l x) (e ∷ es) ≡ cond (ltb e l) 0 (suc (passed es l))
    go true q r = rw (q, le-ltb e l (leb-true l e q), r) (omega arith)
    go false q r = rw (q, lt-ltb e l (leb-false l e q))

-- to write the right end there is to place the interval
pub place_set : (es : List ℕ) (l r : ℕ) → passed es l < length es → set es (passed es l) r ≡ place es l r
place_set [] l r h = absurd (omega arith)
place_set (e ∷ es) l r h = go (ltb e l) h (place_set es l r)
  where
    go : (b : Bool) → cond b 0 (suc (passed es l)) < suc (length es) → (passed es l < length es → set es (passed es l) r ≡ place es l r)
        → set (e ∷ es) (cond b 0 (suc (passed es l))) r ≡ cond b (r ∷ es) (e ∷ place es l r)
    go true h f = refl
    go false h f = ap (λ (xs : List ℕ). e ∷ xs) (f (omega arith))

pub length-step : (es : List ℕ) (x : Interval) → passed es x.left < length es → length (step es x) ≡ length es
length-step es x h = go x.counts
  where
    go : (b : Bool) → length (cond b (place es x.left x.right) es) ≡ length es
    go true = ap length (sym (place_set es x.left x.right h)) ∙ length-set es (passed es x.left) x.right
    go false = refl

-- the tracks from the i-th on are not used
abbrev pub Unused : ℕ → List ℕ → Type 0
Unused i es = (k : ℕ) → i ≤ k → get_or es k 0 ≡ 0

-- then one of the first i + 1 is free, and one more is used at most
module _ (i : ℕ) (es : List ℕ) (unused : Unused i es) where
  pub passed_unused : (l : ℕ) → 1 ≤ l → passed es l ≤ i
  passed_unused l h = go (ltb i (passed es l)) refl
    where
      go : (b : Bool) → ltb i (passed es l) ≡ b → passed es l ≤ i
      go true q = absurd (omega (arith, passed-reach es l i (ltb-true i (passed es l) q), unused i (omega arith)))
      go false q = ltb-false i (passed es l) q

  pub step_unused : (x : Interval) → 1 ≤ x.left → Unused (i + 1) (step es x)
  step_unused x h k q =
      step_at_lem es x k ∙ rw (ne_eqb (track_on es x) (suc k) (λ e. omega (arith, e, most x.counts))) (unused k (omega arith))
    where
      most : (b : Bool) → cond b (suc (passed es x.left)) 0 ≤ i + 1
      most true = omega (arith, passed_unused x.left h)
      most false = omega arith

-- a list of the tracks that are used and an array with zeros behind them are the same to the method
abbrev Same : List ℕ → List ℕ → Type 0
Same es fs = (k : ℕ) → get_or es k 0 ≡ get_or fs k 0

passed_most : (es fs : List ℕ) (l : ℕ) → Same es fs → 1 ≤ l → passed fs l ≤ passed es l
passed_most es fs l same h = go (ltb (passed es l) (passed fs l)) refl
  where
    go : (b : Bool) → ltb (passed es l) (passed fs l) ≡ b → passed fs l ≤ passed es l
    go true q =
        absurd
        (omega (
          arith,
          passed-reach fs l (passed es l) (ltb-true (passed es l) (passed fs l) q),
          same (passed es l),
          passed_free es l h,
        ))
    go false q = ltb-false (passed es l) (passed fs l) q

track_same : (es fs : List ℕ) (x : Interval) → Same es fs → 1 ≤ x.left → track_on es x ≡ track_on fs x
track_same es fs x same h =
    ap (λ (k : ℕ). cond x.counts (suc k) 0)
    (omega (arith, passed_most es fs x.left same h, passed_most fs es x.left (λ k. sym (same k)) h))

edge_same :
    (es fs : List ℕ) (xs : List Interval) → Same es fs → Each (λ (x : Interval). 1 ≤ x.left) xs
    → left_edge_from es xs ≡ left_edge_from fs xs
edge_same es fs [] same h = refl
edge_same es fs (x ∷ xs) same h =
    let track = track_same es fs x same h.0 in
    let next : Same (step es x) (step fs x) = λ k. step_at_lem es x k ∙ rw (track, same k) (sym (step_at_lem fs x k)) in
    rw (track, edge_same (step es x) (step fs x) xs next h.1)

pub unused_zeros : (n : ℕ) → Unused 0 (replicate n 0)
unused_zeros n k h = get_or-zeros n k

pub edge_zeros :
    (n : ℕ) (xs : List Interval) → Each (λ (x : Interval). 1 ≤ x.left) xs → left_edge_from (replicate n 0) xs ≡ left_edge xs
edge_zeros n xs = edge_same (replicate n 0) [] xs (get_or-zeros n)
