-- `table::unite_above` meets its contract.
-- Assumes nothing.
use Rattle.std.proofs.Common.{ℕ, ◌+◌, ◌-◌, ◌<◌, ◌≡◌, sym, ◌∙◌, true≢false, arith, get_or, replicate, rules}
use Rattle.entry.specs.Columns.{United}
use Rattle.std.proofs.lemmas.List.{get_or-replicate}
use Rattle.table.specs.United.{Zeros}
use Rattle.table.proofs.Empty.{united_empty}
use Rattle.table.proofs.Planes.{united_holds}
use Rattle.table.proofs.plane.unite_above.Goals as goal
use Rattle.table.proofs.plane.unite_above.Goals.{then-i-eq0-via-then-i-eq0, then-i-eq0-via-else-i-eq0+then-not-some, then-i-eq0-via-else-i-eq0+else-not-some+then-not-used}

pub returns : goal.returns
returns c =
    let a = c.args in
    let f = a.filling in
    let all : (x : ℕ) → x < f.grid.rows → United f.rules.now.words f.loads.now f.bound a.i a.j x (get_or c.unite.new.unions x 0) =
    λ x h p.
    united_holds f.rules.now.words f.loads.now f.bound f.grid a.i a.j a.work.now c.requires.2 _ _ x _ p h c.start.ensures
    c.range-range.ensures (λ y. c.unite.ensures.0 x y h) c.requires.4 in
    let same : a.j + 1 - 1 ≡ a.j = omega arith in
    (λ e. all, λ l e. rw same all, λ e. absurd (true≢false (sym c.if-not-some.false ∙ e)))

pub returns-then-i-eq0 : goal.returns-then-i-eq0
returns-then-i-eq0 c =
    let a = c.args in
    let f = a.filling in
    let none : Zeros f.grid (replicate 64 0) = λ x h. get_or-replicate 64 x 0 0 (omega (arith, c.requires.0.rows.1)) in
    elim c.then-i-eq0.branch [
      | then-i-eq0-via-then-i-eq0 w ↦ (
        λ e x h p. absurd (omega (arith, w.if-i-eq0.true)),
        λ l e x h p. absurd (omega (arith, w.if-i-eq0.true)),
        λ e. none,
      )
      | then-i-eq0-via-else-i-eq0+then-not-some w ↦
          let all = united_empty f.rules.now.words f.loads.now f.bound f.grid a.i a.j (replicate 64 0) c.requires.0.rows.1 (λ p. c.requires.6 p w.if-not-some.true) none in
          let same : a.j + 1 - 1 ≡ a.j = omega arith in
          (λ e. all, λ l e. rw same all, λ e. none)
      | then-i-eq0-via-else-i-eq0+else-not-some+then-not-used w ↦ (search rules, search rules, λ e. none)
    ]
