-- `tracks::route_nets` meets its contract: 18, then 9, then the spans of the nets in order.
-- Assumes nothing.
use Rattle.std.proofs.Common.{Ok, Err, ℕ, List, ◌++◌, map, length, drop, take_at, refl, sym, ap, ap₂, ◌∙◌, arith}
use Rattle.tracked.specs.declared.TrackRefusal.TheVariants.{TwoNets, SpanBuffer}
use Rattle.ends.specs.Pins.{pins_in}
use Rattle.left_edge.specs.declared.Span.{Span}
use Rattle.left_edge.specs.Method.{left_edge, greatest}
use Rattle.order.specs.Keys.{interval_at}
use Rattle.tracked.specs.Routed.{routed_of, no_spans}
use Rattle.tracks.proofs.Answers.{gives_two_nets, gives-short, gives-tracks, keys_count, keys_spans}
use Rattle.tracks.proofs.route_nets.Goals as goal

pub returns-then-two_nets : goal.returns-then-two_nets
returns-then-two_nets c =
    gives_two_nets _ _ _ (Err TwoNets) (sym c.two_nets.ensures ∙ c.if-two_nets.true) (refl, refl, refl)

pub returns-then-room-len : goal.returns-then-room-len
returns-then-room-len c =
    let pins = c.args.pins in
    let (count, _) = keys_count pins.mark c.args.l (pins_in pins) pins.nets.now _ c.order_nets.ensures.keys in
    gives-short _ _ _ (Err SpanBuffer) (sym c.two_nets.ensures ∙ c.if-two_nets.false) (omega (arith, c.if-room-len.true, count)) (refl, refl, refl)

pub route_keys-requires : goal.route_keys-requires
route_keys-requires c =
    let pins = c.args.pins in
    let now = c.deref.ensures.0 in
    let (_, few) = keys_count pins.mark c.args.l (pins_in pins) pins.nets.now _ c.order_nets.ensures.keys in
    (omega (arith, ap (λ (ks : List ℕ). length ks) now, few, c.requires.1), rw now c.order_nets.ensures.start)

pub returns : goal.returns
returns c =
    let pins = c.args.pins in
    let keys = c.order_nets.ensures in
    let (count, _) = keys_count pins.mark c.args.l (pins_in pins) pins.nets.now _ keys.keys in
    let edge = ap (λ (ks : List ℕ). left_edge (map interval_at ks)) c.deref.ensures.0
    ∙ keys_spans pins.mark c.args.l (pins_in pins) pins.nets.now _ keys.intervals in
    let spans = c.route_keys.ensures.spans ∙ edge in
    let tracks = c.route_keys.ensures.tracks ∙ ap greatest edge in
    let items = c.route_keys.new.spans.items in
    gives-tracks _ _ _ (routed_of items (Ok c.route_keys.result)) (sym c.two_nets.ensures ∙ c.if-two_nets.false) (omega (arith, c.if-room-len.false, count))
    (ap₂ (λ (n t : ℕ). Ok (record { nets = n; tracks = t })) (ap (λ (xs : List Span). length xs) spans) tracks)
    (take_at items (drop (length items) no_spans) _ refl ∙ spans)
    (ap (λ (xs : List Span). xs ++ drop (length xs) no_spans) spans)
