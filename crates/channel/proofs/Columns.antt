-- A word and its columns: rising columns are those of the word made from them, and a word is the one made from its columns.
-- Assumes nothing.
use Rattle.std.proofs.Common.{◌≡◌, ℕ, zero, suc, ◌<◌, ◌≤◌, Bool, true, false, cond, ◌||◌, eqb, leb, List, [], ◌∷◌, ◌++◌, length, sym, refl, ap, ◌∙◌, append-nil, zero-le, arith, eq-eqb, ne_eqb, leb-false, leb-true}
use Rattle.std.proofs.Math.Bool.{or_assoc, or-false}
use Rattle.channel.specs.Density.{any}
use Rattle.channel.specs.Word.{Letter, has_top, has_bottom, letter, word_of, columns_with}
use Rattle.channel.specs.Word.Letter.{empty, top, bottom, both}

-- columns that rise strictly from above b, none of them above l
abbrev pub Rises : ℕ → List ℕ → ℕ → Type 0
Rises b [] l = b ≤ l
Rises b (c ∷ cs) l = (b < c) × Rises c cs l

-- what a rising list starts above is no higher than where it may end
pub rises_bound : (b : ℕ) (cs : List ℕ) (l : ℕ) → Rises b cs l → b ≤ l
rises_bound b [] l h = h
rises_bound b (c ∷ cs) l h = omega (arith, rises_bound c cs l h.1)

-- a column that may have been put at the end of a list, as `columns_with` does
abbrev at_end : List ℕ → Bool → ℕ → List ℕ
at_end cs t k = cs ++ cond t (k ∷ []) []

-- some element of two joined lists is one of either
pub any_append {ℓ} : {A : Type ℓ} (f : A → Bool) (xs ys : List A) → any f (xs ++ ys) ≡ (any f xs || any f ys)
any_append f [] ys = refl
any_append f (x ∷ xs) ys = rw (any_append f xs ys, or_assoc)

-- any other column is in the list exactly if it was
end_other : (cs : List ℕ) (t : Bool) (k c : ℕ) → (c ≡ k → ⊥) → any (eqb c) (at_end cs t k) ≡ any (eqb c) cs
end_other cs true k c h = rw (any_append, ne_eqb c k h, or-false)
end_other cs false k c h = rw append-nil

-- a column that was not in the list is in it exactly if it was put there
end_last : (cs : List ℕ) (t : Bool) (k : ℕ) → any (eqb k) cs ≡ false → any (eqb k) (at_end cs t k) ≡ t
end_last cs true k h = rw (any_append, h, eq-eqb k k refl)
end_last cs false k h = rw (append-nil, h)

-- a list that rises to column l + 1 is one that rises to l, with column l + 1 at its end or not
record Cut (b l : ℕ) (cs : List ℕ) : Type 0 where
  rest : List ℕ
  rises : Rises b rest l
  whole : cs ≡ at_end rest (any (eqb (suc l)) cs) (suc l)

-- its column c is at most l and stays, or is l + 1 and ends the list
cut_cons :
    (b l c : ℕ) (cs : List ℕ) → b ≤ l → b < c → Rises c cs (suc l) → (c ≤ l → Cut c l cs) → (t : Bool) → leb c l ≡ t
    → Cut b l (c ∷ cs)
cut_cons b l c cs hb h hc later true q =
    let k : c ≤ l = leb-true c l q in
    let r : Cut c l cs = later k in
    let whole : c ∷ cs ≡ c ∷ at_end r.rest (any (eqb (suc l)) cs) (suc l) = ap (λ (xs : List ℕ). c ∷ xs) r.whole in
    record { rest = c ∷ r.rest; rises = (h, r.rises); whole = rw (ne_eqb (suc l) c (λ p. omega arith)) whole }
cut_cons b l c [] hb h hc later false q =
    let e : c ≡ suc l = omega (arith, leb-false c l q) in
    record { rest = []; rises = hb; whole = rw (e, eq-eqb (suc l) (suc l) refl) }
cut_cons b l c (d ∷ cs) hb h hc later false q = absurd (omega (arith, leb-false c l q, rises_bound d cs (suc l) hc.1))

-- the cut can be made
cut : (b l : ℕ) (cs : List ℕ) → b ≤ l → Rises b cs (suc l) → Cut b l cs
cut b l [] hb h = record { rest = []; rises = hb; whole = refl }
cut b l (c ∷ cs) hb h = cut_cons b l c cs hb h.0 h.1 (λ k. cut c l cs k h.1) (leb c l) refl

-- up to column l, what is left holds the same columns
cut_same : (b l : ℕ) (cs : List ℕ) (r : Cut b l cs) (c : ℕ) → c ≤ l → any (eqb c) cs ≡ any (eqb c) r.rest
cut_same b l cs r c k =
    ap (any (eqb c)) r.whole ∙ end_other r.rest (any (eqb (suc l)) cs) (suc l) c (λ p. omega arith)

-- a word made up to column l has l letters
pub length-word_of : (l : ℕ) (tops bottoms : List ℕ) → length (word_of l tops bottoms) ≡ l
length-word_of zero tops bottoms = refl
length-word_of (suc l) tops bottoms = ap suc (length-word_of l tops bottoms)

-- where f tells of the letter of each column up to l whether the column is in cs, the columns that f holds of are cs
collected :
    (f : Letter → Bool) (tops bottoms : List ℕ) (l : ℕ) (cs : List ℕ)
    → ((c : ℕ) → c ≤ l → f (letter (any (eqb c) tops) (any (eqb c) bottoms)) ≡ any (eqb c) cs) → Rises 0 cs l
    → columns_with f (word_of l tops bottoms) ≡ cs
collected f tops bottoms zero [] tells h = refl
collected f tops bottoms zero (c ∷ cs) tells h = absurd (omega (arith, rises_bound c cs 0 h.1))
collected f tops bottoms (suc l) cs tells h =
    let r : Cut 0 l cs = cut 0 l cs zero-le h in
    let before = collected f tops bottoms l r.rest (λ c k. tells c (omega arith) ∙ cut_same 0 l cs r c k) r.rises in
    rw (before, tells (suc l) (omega arith), length-word_of l tops bottoms) (sym r.whole)

-- a letter made of two answers gives each of them back
has_top-letter : (a b : Bool) → has_top (letter a b) ≡ a
has_top-letter true true = refl
has_top-letter true false = refl
has_top-letter false true = refl
has_top-letter false false = refl

has_bottom-letter : (a b : Bool) → has_bottom (letter a b) ≡ b
has_bottom-letter true true = refl
has_bottom-letter true false = refl
has_bottom-letter false true = refl
has_bottom-letter false false = refl

-- rising columns of the two sides are those of the word made from them
pub columns_of-word_of :
    (l : ℕ) (tops bottoms : List ℕ) → Rises 0 tops l → Rises 0 bottoms l
    → (columns_with has_top (word_of l tops bottoms) ≡ tops) × (columns_with has_bottom (word_of l tops bottoms) ≡ bottoms)
columns_of-word_of l tops bottoms t b = (
  collected has_top tops bottoms l tops (λ c k. has_top-letter (any (eqb c) tops) (any (eqb c) bottoms)) t,
  collected has_bottom tops bottoms l bottoms (λ c k. has_bottom-letter (any (eqb c) tops) (any (eqb c) bottoms)) b,
)

-- and a letter is made of its two answers
letter_of_lem : (a : Letter) → letter (has_top a) (has_bottom a) ≡ a
letter_of_lem empty = refl
letter_of_lem top = refl
letter_of_lem bottom = refl
letter_of_lem both = refl

-- a word has no column above its length
none_above : (f : Letter → Bool) (w : List Letter) (c : ℕ) → length w < c → any (eqb c) (columns_with f w) ≡ false
none_above f [] c h = refl
none_above f (a ∷ w) c h = end_other (columns_with f w) (f a) (suc (length w)) c (λ p. omega arith) ∙ none_above f w c (omega arith)

-- cs holds, of the columns up to the length of w, those whose letters f holds of
abbrev Agrees : (Letter → Bool) → List ℕ → List Letter → Type 0
Agrees f cs w = (c : ℕ) → c ≤ length w → any (eqb c) cs ≡ any (eqb c) (columns_with f w)

-- then f of the first letter tells of the highest column, and the rest of the word of the others
agrees_first :
    (f : Letter → Bool) (cs : List ℕ) (a : Letter) (w : List Letter) → Agrees f cs (a ∷ w)
    → any (eqb (suc (length w))) cs ≡ f a
agrees_first f cs a w h =
    h (suc (length w)) (omega arith) ∙ end_last (columns_with f w) (f a) (suc (length w)) (none_above f w (suc (length w)) (omega arith))

agrees-rest : (f : Letter → Bool) (cs : List ℕ) (a : Letter) (w : List Letter) → Agrees f cs (a ∷ w) → Agrees f cs w
agrees-rest f cs a w h c k = h c (omega arith) ∙ end_other (columns_with f w) (f a) (suc (length w)) c (λ p. omega arith)

-- the word made of columns that are, up to its length, those of w is w
spelled :
    (tops bottoms : List ℕ) (w : List Letter) → Agrees has_top tops w → Agrees has_bottom bottoms w
    → word_of (length w) tops bottoms ≡ w
spelled tops bottoms [] ht hb = refl
spelled tops bottoms (a ∷ w) ht hb =
    rw (
      agrees_first has_top tops a w ht,
      agrees_first has_bottom bottoms a w hb,
      letter_of_lem a,
      spelled tops bottoms w (agrees-rest has_top tops a w ht) (agrees-rest has_bottom bottoms a w hb),
    )

-- a word is the one made from its columns
pub word_of-columns : (w : List Letter) → word_of (length w) (columns_with has_top w) (columns_with has_bottom w) ≡ w
word_of-columns w = spelled (columns_with has_top w) (columns_with has_bottom w) w (λ c k. refl) (λ c k. refl)
