-- The numbers of an answer about tracks (document 01, "The refusal list"; document 02, T-04).
-- Assumes nothing.
use Rattle.std.specs.Prelude.{ℕ, ℤ, pos, Result, Ok, Err}
use Rattle.refusals.specs.Lists.{list_number, list_amount}
use Rattle.refusals.specs.Answers.{number_in, amount_in}
use Rattle.tracked.specs.declared.Counts.{Counts}
use Rattle.tracked.specs.declared.TrackRefusal.{TrackRefusal}
use Rattle.tracked.specs.declared.TrackRefusal.TheVariants.{Listed, TwoNets, SpanBuffer}

-- the number of each refusal
abbrev pub track_number : TrackRefusal → ℕ
track_number (Listed why) = list_number why
track_number TwoNets = 18
track_number SpanBuffer = 9

-- 14 "carries the amount"; all others carry 0
abbrev pub track_amount : TrackRefusal → ℤ
track_amount (Listed why) = list_amount why
track_amount TwoNets = pos 0
track_amount SpanBuffer = pos 0

-- 0 with tracks
abbrev pub number_of : Result Counts TrackRefusal → ℕ
number_of answer = number_in track_number answer

abbrev pub amount_of : Result Counts TrackRefusal → ℤ
amount_of answer = amount_in track_amount answer

-- how many nets have a span, and how many tracks they take; 0 with a refusal
abbrev pub count_of : Result Counts TrackRefusal → ℕ
count_of (Ok counts) = counts.nets
count_of (Err why) = 0

abbrev pub tracks_of : Result Counts TrackRefusal → ℕ
tracks_of (Ok counts) = counts.tracks
tracks_of (Err why) = 0
