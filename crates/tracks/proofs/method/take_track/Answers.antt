-- `tracks::method::take_track` meets its contract: the right end is written at the lowest free track.
-- Assumes nothing.
use Rattle.std.proofs.Common.{ℕ, ◌≡◌, ◌∙◌, ap, true, List, set, arith}
use Rattle.std.proofs.lemmas.Bool.{not-false}
use Rattle.tracks.proofs.Free.{place_set}
use Rattle.tracks.proofs.method.take_track.Goals as goal

pub returns-clause-ends : goal.returns-clause-ends
returns-clause-ends c =
    let x = c.args.x in
    let ends : List ℕ = c.args.ends.now in
    let some : x.counts ≡ true = not-false _ c.if-not-x.false in
    rw some (ap (λ (k : ℕ). set ends k x.right) c.free_track-i.ensures ∙ place_set ends x.left x.right (omega (arith, c.requires)))
