-- `tracks::method::route_keys` meets its contract. The loop's invariant: the intervals passed are on their tracks (`OnTracks`).
-- Assumes nothing.
use Rattle.tracks.proofs.OnTracks.{OnTracks}
use Rattle.tracks.proofs.method.route_keys.Given as goal

abbrev pub invariant-loop-key : goal.invariant-loop-key
invariant-loop-key l = OnTracks l.keys l.spans.items l.ends l.tracks l.key-index
