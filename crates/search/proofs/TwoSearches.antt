-- Demand 3 of the search: what two searches return.
-- Assumes nothing.
use Rattle.std.proofs.Common.{◌≡◌, ℕ, true, List, length, Result, sym, refl, ◌∙◌, subst, true≢false, arith}
use Rattle.channel.specs.Sheet.{Sheet, Sound}
use Rattle.channel.specs.Assignment.{is_assignment}
use Rattle.channel.specs.Best.{Found, best, Answers}
use Rattle.channel.specs.Best.Found.{none, found}
use Rattle.channel.specs.Pairs.{LeastKept}
use Rattle.channel.proofs.Best.{best_answers}
use Rattle.channel.proofs.Pairs.{least_kept}
use Rattle.soundness.proofs.Laws.{read-sound}
use Rattle.searched.specs.declared.SearchRefusal.{SearchRefusal}
use Rattle.searched.specs.Numbers.{number_of, density_of}
use Rattle.search.specs.Answer.{Searches}
use Rattle.search.specs.Returned.{LongEnough}
use Rattle.search.specs.Pair.{Kept}
use Rattle.search.proofs.Found.{density-found, gives}

-- demand 3
pub two_searches :
    (a b c u c' u' d v d' v' : List ℕ) (r r' : Result ℕ SearchRefusal) → Searches a c u c' u' r → Searches b d v d' v' r' → (s t : Sheet)
    → LongEnough a s (length c) (length u) → LongEnough b t (length d) (length v)
    → Kept s t (number_of r) (density_of r) (number_of r') (density_of r') c' d'
two_searches a b c u c' u' d v d' v' r r' one two s t long long' =
    record {
      loosened =
          λ h es ok.
          let (m, ms, e) = some-best (best s) refl es ok in
          let (n, ns, e', le) = kept.loosened h m ms e in
          (gives one long e, gives two long' e', omega (arith, le, density-found one long e, density-found two long' e'));
      lengthened =
          λ h.
          let (m, ms, ns, e, e') = kept.lengthened h in
          (gives one long e, gives two long' e', density-found two long' e' ∙ sym (density-found one long e));
    }
  where
    hs : Sound s
    hs = read-sound a s long.reads

    kept : LeastKept s t
    kept = least_kept s t hs (read-sound b t long'.reads)

    some-best :
        (f : Found) → best s ≡ f → (es : List ℕ) → is_assignment s es ≡ true → (m : ℕ) × (ms : List ℕ) × (best s ≡ found m ms)
    some-best none e es ok = absurd (true≢false (sym ok ∙ subst (Answers s) e (best_answers s hs) es))
    some-best (found m ms) e es ok = (m, ms, e)
