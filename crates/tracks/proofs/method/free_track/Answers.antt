-- `tracks::method::free_track` meets its contract: the tracks passed are those in front that reach the column.
-- Assumes nothing.
use Rattle.std.proofs.Common.{rules, tests, ℕ, Bool, leb, ◌∙◌}
use Rattle.std.proofs.lemmas.Iterator.{YieldsList-from_slice}
use Rattle.std.proofs.lemmas.Iterator.Consumers.{count_from_yields_List}
use Rattle.std.proofs.lemmas.Iterator.Search.{YieldsList-from_take_while}
use Rattle.std.proofs.lemmas.List.Folds.{length-prefix_len}
use Rattle.tracks.proofs.Free.{passed-prefix}
use Rattle.tracks.proofs.method.free_track.Goals as goal

pub returns : goal.returns
returns c =
    let a = c.args in
    let reach : ℕ → Bool = λ (e : ℕ). leb a.left e in
    count_from_yields_List c.take_while.result c.count.result c.count.ensures.ran
    (YieldsList-from_take_while _ reach (YieldsList-from_slice a.ends.now (cc)) c.take_while.ensures.closure c.take_while.ensures.done
    (λ x b q k. search (rules, tests)))
    ∙ length-prefix_len reach a.ends.now
    ∙ passed-prefix a.ends.now a.left
