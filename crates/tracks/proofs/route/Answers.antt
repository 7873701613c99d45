-- `tracks::route` meets its contract: what the list's check refuses, then the answer of an assignment.
-- Assumes nothing.
use Rattle.std.proofs.Common.{rules, Ok, sym, subst}
use Rattle.soundness.specs.Read.{sheet_of}
use Rattle.left_edge.specs.Spans.{spans_of}
use Rattle.tracked.specs.declared.Routed.{Routed}
use Rattle.tracked.specs.Routed.{routed_of}
use Rattle.tracks.specs.Answer.{tracked_of, Gives}
use Rattle.list.proofs.Laws.{given, refused}
use Rattle.tracks.proofs.Sheets.{list_refused, laid, tracks_given}
use Rattle.tracks.proofs.route.Goals as goal

pub route_columns-requires : goal.route_columns-requires
route_columns-requires c = laid _ _ _ (given c.args.s c.args.columns _ (rw c.in_ok-listed.was at c.assignment.ensures))

pub returns-in_err-listed : goal.returns-in_err-listed
returns-in_err-listed c =
    list_refused _ _ _ _ (refused c.args.s c.args.columns _ (rw c.in_err-listed.was at c.assignment.ensures)) _ (search rules)

pub returns-in_err-tracks : goal.returns-in_err-tracks
returns-in_err-tracks c =
    let routed = tracks_given _ _ _ (given c.args.s c.args.columns _ (rw c.in_ok-listed.was at c.assignment.ensures)) c.args.room
    (routed_of c.route_columns.new.spans.items c.route_columns.result) c.route_columns.ensures in
    let refused = rw c.in_err-tracks.was at routed in
    search rules

pub returns : goal.returns
returns c =
    let routed = tracks_given _ _ _ (given c.args.s c.args.columns _ (rw c.in_ok-listed.was at c.assignment.ensures)) c.args.room
    (routed_of c.route_columns.new.spans.items c.route_columns.result) c.route_columns.ensures in
    subst (λ (r : Routed). Gives (tracked_of c.args.s.now c.args.columns.now c.args.room) (spans_of (sheet_of c.args.s.now) c.args.columns.now) (Ok r))
    (sym c.new.ensures) (rw c.in_ok-tracks.was at routed)
