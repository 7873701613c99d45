-- The steps of a reader find the terminals of a sound sheet, top then bottom, each once, and then the end; over a refused sheet
-- they find the end at once.
-- Assumes nothing.
use Rattle.std.proofs.Common.{◌≡◌, ℕ, zero, suc, ◌+◌, ◌≤◌, List, [], ◌∷◌, ◌++◌, length, take, None, Option, sym, refl, ap, ◌∙◌, arith, length-append}
use Rattle.channel.specs.Sheet.{Sheet}
use Rattle.channel.specs.declared.Side.TheVariants.{Top, Bottom}
use Rattle.soundness.specs.Read.{Read, read}
use Rattle.soundness.specs.Read.Read.{sound, refused}
use Rattle.cursor.specs.declared.Cursor.{Cursor}
use Rattle.cursor.specs.declared.Visit.{Visit}
use Rattle.cursor.specs.Visits.{visits, all_visits, step_in, step_as}
use Rattle.cursor.proofs.Laws.{visits_of_lem, length-visits, step_of_lem}
use Rattle.reader.specs.Reader.{step_at, passed_after}
use Rattle.reader.specs.Steps.{place_after, step_number, visit_in, terminals_by, Reads}

-- what a list has after p of it, with the cursor past that
abbrev after : List Visit → ℕ → Option (Visit × Cursor)
after vs p = step_in vs p (record { passed = p + 1 })

-- the place after a step is one further where it found a terminal
place-next : (vs : List Visit) (k p : ℕ)
    → (let s : Option (Visit × Cursor) = step_in vs k (record { passed = p + 1 }) in passed_after s p ≡ p + length (visit_in s))
place-next [] k p = omega arith
place-next (v ∷ vs) zero p = refl
place-next (v ∷ vs) (suc k) p = place-next vs k p

-- n + 1 of a list are n of it and what a step then finds
take_next : (vs : List Visit) (n : ℕ) (c : Cursor) → take n vs ++ visit_in (step_in vs (length (take n vs)) c) ≡ take (suc n) vs
take_next [] zero c = refl
take_next [] (suc n) c = refl
take_next (v ∷ vs) zero c = refl
take_next (v ∷ vs) (suc n) c = ap (v ∷◌) (take_next vs n c)

-- past a list a step finds the end
past_end : (vs : List Visit) (n : ℕ) (c : Cursor) → length vs ≤ n → step_in vs (length (take n vs)) c ≡ None
past_end (v ∷ vs) zero c h = elim h [ ]
past_end [] n c h = refl
past_end (v ∷ vs) (suc n) c h = past_end vs n c (omega arith)

-- a sheet whose terminals are vs
module _ (b : List ℕ) (vs : List Visit) (has : (p : ℕ) → step_at b p ≡ after vs p) where
  -- step number n, where the place after n steps counts the first n
  number : (n : ℕ) → place_after b n ≡ length (take n vs) → step_number b n ≡ after vs (length (take n vs))
  number n e = has (place_after b n) ∙ ap (after vs) e

  -- n steps find the first n, and their place counts them
  first : (n : ℕ) → (terminals_by b n ≡ take n vs) × (place_after b n ≡ length (take n vs))
  first zero = (refl, refl)
  first (suc n) =
      let found : step_number b n ≡ after vs (length (take n vs)) = number n (first n).1 in
      let next : take n vs ++ visit_in (after vs (length (take n vs))) ≡ take (suc n) vs = take_next vs n _ in (
        (λ i. (first n).0 i ++ visit_in (found i)) ∙ next,
        (λ i. passed_after (found i) ((first n).1 i))
            ∙ place-next vs (length (take n vs)) (length (take n vs))
            ∙ sym (length-append (take n vs) (visit_in (after vs (length (take n vs)))))
            ∙ ap length next,
      )

  finishes : (n : ℕ) → length vs ≤ n → step_number b n ≡ None
  finishes n h = number n (first n).1 ∙ past_end vs n _ h

length-all : (s : Sheet) → length (all_visits s) ≡ length s.top + length s.bottom
length-all s =
    ap length (visits_of_lem s)
    ∙ length-append (visits Top 1 s.top) (visits Bottom 1 s.bottom)
    ∙ (λ i. length-visits Top 1 s.top i + length-visits Bottom 1 s.bottom i)

reads_as : (b : List ℕ) (r : Read) → ((p : ℕ) → step_at b p ≡ step_as p r) → Reads b r
reads_as b (sound s) has =
    record {
      each = λ n. (first b (all_visits s) has n).0 ∙ ap (take n) (visits_of_lem s);
      end = λ n h. finishes b (all_visits s) has n (omega (arith, length-all s, h));
    }
reads_as b (refused why) has = λ n. has (place_after b n)

-- the promise, for all bytes
pub reads : (b : List ℕ) → Reads b (read b)
reads b = reads_as b (read b) (λ p. step_of_lem b _)
