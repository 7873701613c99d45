use Rattle.std.proofs.Common.{ℕ, max, ◌∙◌, ap, arith}
use Rattle.left_edge.specs.declared.Interval.{Interval}
use Rattle.tracks.proofs.OnTracks.{on_none, free, on-next}
use Rattle.tracks.proofs.method.route_keys.Goals as goal

pub loop-key-init : goal.loop-key-init
loop-key-init c =
    rw c.clear.ensures (on_none c.args.keys.now c.requires.0 c.requires.1)

pub take_track-track-requires : goal.take_track-track-requires
take_track-track-requires c =
    let p = c.loop-key.invariant in
    let free = free c.args.keys.now c.requires.0 c.requires.1 p (omega arith) c.interval_at-x.result c.interval_at-x.ensures in
    omega (arith, free, p.slots)

pub loop-key-preserved : goal.loop-key-preserved
loop-key-preserved c =
    let x : Interval = c.interval_at-x.result in
    let track = c.take_track-track.ensures.track in
    let ends = c.take_track-track.ensures.ends in
    let p =
    on-next c.args.keys.now c.requires.0 c.requires.1 c.loop-key.invariant (omega arith) x
    c.interval_at-x.ensures in
    let span = c.span_on.ensures ∙ ap (λ (t : ℕ). record { net = x.net; left = x.left; right = x.right; track = t }) track in
    let tracks = c.max-tracks.ensures ∙ ap (max c.loop-key.tracks) track in
    rw (c.push.ensures.items, span, ends, tracks) p
