-- The answer, from what the list's check, the constraints and the density say.
-- Assumes nothing.
use Rattle.std.proofs.Common.{◌≡◌, ℕ, ◌≤◌, List, length, Err, Result, ap, ap₂, ◌∙◌, arith}
use Rattle.std.specs.Borrow.{Bor}
use Rattle.channel.specs.Sheet.{Sheet}
use Rattle.channel.specs.Density.{density}
use Rattle.refusals.specs.declared.ListRefusal.{ListRefusal}
use Rattle.soundness.specs.Read.{sheet_of}
use Rattle.soundness.proofs.Laws.{read-sound}
use Rattle.sheet.specs.Sections.{sheet_held}
use Rattle.list.specs.Answer.{listed_of}
use Rattle.list.specs.declared.listed.ListedSheet.{ListedSheet}
use Rattle.list.proofs.Laws.{Given}
use Rattle.constraints.specs.Listed.{constraints_of}
use Rattle.chained.specs.declared.ChainRefusal.{ChainRefusal}
use Rattle.chained.specs.declared.ChainRefusal.TheVariants.{Listed}
use Rattle.chains.specs.Chains.{chain_nets}
use Rattle.chains.specs.Answer.{with_bound, chained_of}

pub list_refused : (b cs : List ℕ) (why : ListRefusal) → listed_of b cs ≡ Err why → Err (Listed why) ≡ chained_of b cs
unfolding chained_of
list_refused b cs why e = rw e

-- an assignment, beside the sections of its sheet
module _ (s columns : Bor (List ℕ)) (m : ListedSheet) (came : Given s columns m) where
  pub few_tops : m.sections.shape.top ≤ 64
  few_tops =
      let sound = read-sound s.now (sheet_of s.now) came.laws.opens.reads in
      omega (arith, m.beside.tops, ap (λ (t : Sheet). length t.top) came.same, sound.counts.0)

  pub nets_given :
      (r : Result ℕ ChainRefusal) → r ≡ chain_nets (constraints_of (sheet_held m.sections) m.columns.now)
      → (d : ℕ) → d ≡ density (sheet_held m.sections) m.columns.now → with_bound d r ≡ chained_of s.now columns.now
  unfolding chained_of
  nets_given r e d counted =
      let own = ap (λ (b : Bor (List ℕ)). b.now) came.own in
      rw came.answer
      (ap₂ with_bound (counted ∙ ap₂ density came.same own) (e ∙ ap chain_nets (ap₂ constraints_of came.same own)))
