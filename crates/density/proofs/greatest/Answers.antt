use Rattle.std.proofs.Common.{ℕ, ◌≡◌, max, fold, take, drop, rules, arith, ◌∙◌}
use Rattle.density.proofs.Sums.{greatest_fold}
use Rattle.density.proofs.greatest.Goals as goal

pub returns : goal.returns
returns c =
    let a = c.args in
    let e : c.fold.result ≡ fold (λ (most x : ℕ). max most x) 0 (take a.l (drop 1 a.counts.now)) = search rules in
    e ∙ greatest_fold a.l a.counts.now (omega arith)
