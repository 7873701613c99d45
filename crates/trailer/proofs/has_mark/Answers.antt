-- `ends_with` compares the mark with the last two bytes; where there are not two, the lengths differ.
-- Assumes nothing.
use Rattle.std.proofs.Common.{◌≡◌, ◌∙◌, ℕ, suc, ◌-◌, ◌≤◌, Bool, true, false, ◌&&◌, leb, eqb, List, [], ◌∷◌, length, length-drop, get_or, drop, refl, sym, ap, ap₂, arith, leb-true, leb-false, eq-eqb, ne_eqb, eqb-true}
use Rattle.std.proofs.Math.Bool.{and-true}
use Rattle.std.proofs.Math.ListN.{drop_of_length-le}
use Rattle.std.proofs.Math.Seq.{drop-cons}
use Rattle.std.proofs.lemmas.Bool.{eqb-false}
use Rattle.std.specs.Cmp.Lexicographic.{unequal}
use Rattle.std.specs.List.{ends_with}
use Rattle.trailer.specs.Trailer.{has_mark}
use Rattle.trailer.proofs.has_mark.Goals as goal

turned : (a b : ℕ) → eqb a b ≡ eqb b a
turned a b = by-test (eqb a b) refl
  where
    by-test : (t : Bool) → eqb a b ≡ t → t ≡ eqb b a
    by-test true e = sym (eq-eqb b a (sym (eqb-true a b e)))
    by-test false e = sym (ne_eqb b a (λ q. eqb-false a b e (sym q)))

last_two : (s : List ℕ) → 2 ≤ length s → drop (length s - 2) s ≡ get_or s (length s - 2) 0 ∷ get_or s (length s - 1) 0 ∷ []
last_two s h =
    let next : suc (length s - 2) ≡ length s - 1 = omega arith in
    let last : drop (length s - 1) s ≡ get_or s (length s - 1) 0 ∷ drop (suc (length s - 1)) s = drop-cons s (length s - 1) 0 (omega arith) in
    drop-cons s (length s - 2) 0 (omega arith)
    ∙ ap (λ (r : List ℕ). get_or s (length s - 2) 0 ∷ r)
    (ap (λ (k : ℕ). drop k s) next ∙ last ∙ ap (λ (r : List ℕ). get_or s (length s - 1) 0 ∷ r) (drop_of_length-le s {i = suc (length s - 1)} (omega arith)))

ends_at : (s mark : List ℕ) → length mark ≡ 2 → ends_with eqb s mark ≡ has_mark s mark
unfolding has_mark
ends_at s [] h = absurd (omega arith)
ends_at s (a ∷ []) h = absurd (omega arith)
ends_at s (a ∷ b ∷ []) h = by_length (leb 2 (length s)) refl
  where
    by_length :
        (t : Bool) → leb 2 (length s) ≡ t
        → ends_with eqb s (a ∷ b ∷ []) ≡ (t && eqb (get_or s (length s - 2) 0) a && eqb (get_or s (length s - 1) 0) b)
    by_length true e =
        rw (last_two s (leb-true _ _ e)) (ap₂ (λ (x y : Bool). x && y) (turned a _) (and-true _ ∙ turned b _))
    by_length false e =
        let few : length s ≤ 1 = omega (arith, leb-false _ _ e) in
        unequal eqb (a ∷ b ∷ []) (drop (length s - 2) s) (different few)
      where
        different : length s ≤ 1 → length (a ∷ b ∷ []) ≡ length (drop (length s - 2) s) → ⊥
        different few q = omega (arith, length-drop (length s - 2) s)
ends_at s (a ∷ b ∷ c ∷ l) h = absurd (omega arith)

pub returns : goal.returns
returns c = c.ends_with.ensures.value ∙ ends_at _ _ c.told-letters
