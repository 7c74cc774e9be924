-- What is done in a round. Meetings are acted on in their order. A point that nearly meets another,
-- or lies beside a segment, moves to the place where both should meet, with all points of its block
-- at its place; and that place is put into the segment. A point that was moved, or to whose place
-- others moved, doesn't move again in the round. Lengths are whole tenths of a millimetre.
use Rattle.std.specs.Prelude.{ℕ, Bool, true, false, not, ◌&&◌, List, [], ◌∷◌, ◌++◌, Option, Some, None, is_some, if◌then◌else◌}
use Rattle.std.specs.List.{list_all}
use Rattle.design_model.specs.declared.point.Point.{Point}
use Rattle.design_model.specs.Points.{is_same_point}
use Rattle.drawing_review.specs.Frames.{grid_point}
use Rattle.line_meetings.specs.declared.meeting.Meeting.{Meeting}
use Rattle.line_meetings.specs.declared.meeting.MeetingKind.{MeetingKind}
use Rattle.line_meetings.specs.declared.meeting.MeetingKind.TheVariants as meeting
use Rattle.line_sections.specs.declared.spot.Spot.{Spot}
use Rattle.line_sections.specs.ListedPoints.{spot_at}
use Rattle.meeting_rounds.specs.declared.acts.Acts.{Acts}
use Rattle.meeting_rounds.specs.declared.puts.Put.{Put}
use Rattle.meeting_rounds.specs.declared.tracked_lines.TrackedLine.{TrackedLine}
use Rattle.meeting_rounds.specs.declared.tracked_lines.TrackedPoint.{TrackedPoint}
use Rattle.meeting_rounds.specs.MovedPoints.{may_move, target_in}
use Rattle.meeting_rounds.specs.PinnedSpots.{is_among_spots}
use Rattle.meeting_rounds.specs.Puts.{put_of}

-- Nothing is done.
abbrev pub no_acts : Acts
no_acts = record { moves = []; pinned = []; puts = []; is_idle = true }

-- The points of a spot don't move so far.
abbrev pub stays_so_far : Acts → Spot → Bool
stays_so_far acts s = not (is_some (target_in acts.moves s))

-- The points of a spot may still move.
abbrev pub is_free : Acts → Spot → Bool
is_free acts s = stays_so_far acts s && not (is_among_spots acts.pinned s)

-- The points of a spot move to a place of their block, which is pinned.
abbrev pub moving : Acts → Spot → Point → Acts
moving acts from to = record {
  moves = acts.moves ++ record { from = from; to = to } ∷ [];
  pinned = acts.pinned ++ spot_at from.block to ∷ [];
  puts = acts.puts;
  is_idle = false;
}

-- A point is put into a segment.
abbrev pub putting : Acts → Put → Acts
putting acts put = record {
  moves = acts.moves;
  pinned = acts.pinned;
  puts = acts.puts ++ put ∷ [];
  is_idle = false;
}

-- A point is put into a segment, if there is a put.
abbrev pub putting_if : Acts → Option Put → Acts
putting_if acts None = acts
putting_if acts (Some put) = putting acts put

-- The points of a spot are pinned.
abbrev pub pinning : Acts → Spot → Acts
pinning acts at = record {
  moves = acts.moves;
  pinned = acts.pinned ++ at ∷ [];
  puts = acts.puts;
  is_idle = acts.is_idle;
}

-- The spot of a meeting's point.
abbrev pub meeting_spot : Meeting → Spot
meeting_spot m = spot_at m.block m.from

-- The points of lines at each spot.
abbrev pub PlacedLists : Type 0
PlacedLists = Spot → List TrackedPoint

-- The points of a meeting may move to where the two should meet: those of neither place moved, none
-- is pinned, and what they stand for lets them.
abbrev pub can_move : ℕ → PlacedLists → Acts → Meeting → Bool
can_move gap placed acts m = is_free acts (meeting_spot m)
    && (stays_so_far acts (spot_at m.block m.to)
    && list_all (may_move gap m.to) (placed (meeting_spot m)))

-- The put of a meeting's place into the other segment, if it may be put there.
abbrev pub put_of_meeting : ℕ → List TrackedLine → Meeting → Option Put
put_of_meeting gap lines m = put_of gap lines m.other m.other_index (grid_point m.to)

-- Points that nearly meet: one becomes the other.
abbrev pub acts_on_close : ℕ → PlacedLists → Acts → Meeting → Acts
acts_on_close gap placed acts m =
    if can_move gap placed acts m then moving acts (meeting_spot m) m.to else acts

-- A point beside a segment moves onto it with that put.
abbrev pub moves_and_puts : Bool → Acts → Meeting → Put → Acts
moves_and_puts can acts m put = if can then putting
    (moving acts (meeting_spot m) m.to) put else acts

-- A point that lies where a segment should list it is pinned, and put there.
abbrev pub pins_and_puts : Acts → Meeting → Put → Acts
pins_and_puts acts m put =
    if stays_so_far acts (meeting_spot m) then putting (pinning acts (meeting_spot m)) put else acts

-- A point beside a segment, with its put: it moves, unless it is at that place.
abbrev pub acts_with_put : ℕ → PlacedLists → Acts → Meeting → Option Put → Acts
acts_with_put gap placed acts m None = acts
acts_with_put gap placed acts m (Some put) =
    if is_same_point m.from m.to then pins_and_puts acts m put
    else moves_and_puts (can_move gap placed acts m) acts m put

-- A point beside a segment.
abbrev pub acts_on_beside : ℕ → PlacedLists → List TrackedLine → Acts → Meeting → Acts
acts_on_beside gap placed lines acts m = acts_with_put gap placed acts m
    (put_of_meeting gap lines m)

-- Two segments that cross: the point is put into both, if crossings are listed.
abbrev pub acts_on_crossing : Bool → ℕ → List TrackedLine → Acts → Meeting → Acts
acts_on_crossing lists_crossings gap lines acts m =
    if lists_crossings
    then putting_if (putting_if acts (put_of gap lines m.line m.index (grid_point m.to)))
    (put_of_meeting gap lines m)
    else acts

-- A meeting of a kind. Segments that share more than a point have ends that lie on the other one,
-- and a segment drawn again stays.
abbrev pub acts_on_kind : Bool → ℕ → PlacedLists → List TrackedLine → Acts → Meeting
    → MeetingKind → Acts
acts_on_kind lists_crossings gap placed lines acts m meeting.ClosePoints =
    acts_on_close gap placed acts m
acts_on_kind lists_crossings gap placed lines acts m meeting.BesideSegment =
    acts_on_beside gap placed lines acts m
acts_on_kind lists_crossings gap placed lines acts m meeting.OnSegment =
    acts_on_beside gap placed lines acts m
acts_on_kind lists_crossings gap placed lines acts m meeting.Crossing =
    acts_on_crossing lists_crossings gap lines acts m
acts_on_kind lists_crossings gap placed lines acts m meeting.Overlap = acts
acts_on_kind lists_crossings gap placed lines acts m meeting.Repeat = acts

-- A meeting.
abbrev pub acts_on : Bool → ℕ → PlacedLists → List TrackedLine → Acts → Meeting → Acts
acts_on lists_crossings gap placed lines acts m =
    acts_on_kind lists_crossings gap placed lines acts m m.kind

-- Meetings, in their order.
abbrev pub acts_next : Bool → ℕ → PlacedLists → List TrackedLine → Acts → List Meeting
    → Acts
acts_next lists_crossings gap placed lines acts [] = acts
acts_next lists_crossings gap placed lines acts (m ∷ rest) =
    acts_next lists_crossings gap placed lines
    (acts_on lists_crossings gap placed lines acts m) rest
