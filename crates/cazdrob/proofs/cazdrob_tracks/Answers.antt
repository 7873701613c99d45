-- The answer's spans fit into the caller's array.
use Rattle.std.proofs.Common.{◌∙◌, subst, Result}
use Rattle.tracked.specs.declared.Counts.{Counts}
use Rattle.tracked.specs.declared.TrackRefusal.{TrackRefusal}
use Rattle.tracks.proofs.Laws.{spans_fit, spans_copied}
use Rattle.cazdrob.specs.Host.{HostNumbers}
use Rattle.cazdrob.proofs.cazdrob_tracks.Goals as goal

pub copy_spans-requires : goal.copy_spans-requires
copy_spans-requires c = spans_fit c.args.s.now c.args.columns.now c.args.spans.now c.route-routed.result c.route-routed.ensures

pub returns : goal.returns
returns c =
    let routed = c.route-routed.result in
    let given = c.route-routed.ensures in
    let p = c.put_answer in
    record {
      numbers = subst (λ (a : Result Counts TrackRefusal). HostNumbers a p.new.nets p.new.tracks p.new.amount p.result) (c.counts_in.ensures ∙ given.0) p.ensures;
      spans = c.copy_spans.ensures ∙ spans_copied c.args.s.now c.args.columns.now c.args.spans.now routed given;
    }
