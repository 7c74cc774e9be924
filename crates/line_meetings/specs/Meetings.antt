-- Where lines of a block should meet and don't. Points and segments that are listed or drawn again
-- are one place, and each place is told once, from the part that is first. They should meet:
--  - where two points are within the gap of each other, and no segments near by join them;
--  - where a point lies beside a segment: on it or within the gap of it, away from its ends;
--  - where two segments cross inside both, and where they share more than a point.
-- They do meet where both list the point. A segment that is drawn again is told too. Whatever lies
-- in different blocks never meets. Lengths are whole tenths of a millimetre, and distances are on
-- the larger axis.
use Rattle.std.specs.Prelude.{ℕ, not, List, [], ◌∷◌, ◌++◌, Option, Some, None, filter, map, if◌then◌else◌}
use Rattle.std.specs.List.{flat_map}
use Rattle.design_model.specs.declared.point.Point.{Point}
use Rattle.line_sections.specs.Lines.{LineValue}
use Rattle.drawing_review.specs.declared.segment.LineSegment.{LineSegment}
use Rattle.drawing_review.specs.Meetings.{is_near}
use Rattle.line_meetings.specs.declared.meeting.Meeting.{Meeting}
use Rattle.line_meetings.specs.declared.meeting.MeetingKind.{MeetingKind}
use Rattle.line_meetings.specs.declared.meeting.MeetingKind.TheVariants as meeting
use Rattle.line_meetings.specs.Joints.{are_joined}
use Rattle.line_meetings.specs.Parts.{all_points, all_segments, ends_first, firsts_of, is_line_end, kept_with, key_of, part_at}
use Rattle.line_meetings.specs.Queries.{is_close_point, is_passed, touches_later}
use Rattle.line_meetings.specs.Telling.{told}
use Rattle.line_meetings.specs.Touches.{crossing_of, distance_of, do_overlap, drawn_point, least_near, nearest_on, shared_end, shared_start}

-- A meeting of the part s with the part t.
abbrev pub meeting_of : MeetingKind → (s t : LineSegment) → (from to : Point) → ℕ → Meeting
meeting_of kind s t from to distance = record {
  kind = kind;
  block = s.block;
  line = s.line;
  index = s.number;
  is_end = is_line_end s;
  other = t.line;
  other_index = t.number;
  from = from;
  to = to;
  distance = distance;
}

-- Two points that nearly meet.
abbrev pub close_points : (p q : LineSegment) → Meeting
close_points p q = meeting_of meeting.ClosePoints p q p.from q.from (distance_of p.a q.a)

-- Points that nearly meet the point p: later ones within the gap, which no segments near by join
-- to it.
abbrev pub close_to : ℕ → (points segments : List LineSegment) → LineSegment → List Meeting
close_to gap points segments p = map (close_points p)
    (filter (λ q. not (are_joined gap segments p q)) (filter (is_close_point gap p) points))

-- What lies between a point and a segment: nothing, or a gap.
abbrev pub beside_kind : LineSegment → LineSegment → MeetingKind
beside_kind p t = if is_near 0 p.a t then meeting.OnSegment else meeting.BesideSegment

-- A point beside a segment, which should list the nearest whole point on it.
abbrev pub point_beside : ℕ → (p t : LineSegment) → Meeting
point_beside gap p t = meeting_of (beside_kind p t) p t p.from (drawn_point (nearest_on t p.a))
    (least_near gap 0 p.a t)

-- The segments that a point lies beside.
abbrev pub beside : ℕ → List LineSegment → LineSegment → List Meeting
beside gap segments p = map (point_beside gap p) (filter (is_passed gap p) segments)

-- A crossing of two segments, which should list the nearest whole point of it.
abbrev pub crossing : (s t : LineSegment) → Meeting
crossing s t = meeting_of meeting.Crossing s t (drawn_point (crossing_of s t))
    (drawn_point (crossing_of s t)) 0

-- What two segments share, from point to point.
abbrev pub overlap : (s t : LineSegment) → Meeting
overlap s t = meeting_of meeting.Overlap s t (drawn_point (shared_start s t))
    (drawn_point (shared_end s t)) 0

-- Two segments that share more than a point, or cross.
abbrev pub touch : (s t : LineSegment) → Meeting
touch s t = if do_overlap s t then overlap s t else crossing s t

-- The later segments that a segment crosses, or with which it shares more than a point.
abbrev pub touches : List LineSegment → LineSegment → List Meeting
touches segments s = map (touch s) (filter (touches_later s) segments)

-- A segment that is drawn again, with its first copy.
abbrev pub repeat : (s t : LineSegment) → Meeting
repeat s t = meeting_of meeting.Repeat s t s.from s.to 0

-- The meeting of a segment with its first copy, if it has one.
abbrev pub repeat_of : LineSegment → Option LineSegment → List Meeting
repeat_of s None = []
repeat_of s (Some t) = repeat s t ∷ []

-- The segments that are drawn again, after those kept, each with its first copy.
abbrev pub repeats_after : (kept segments : List LineSegment) → List Meeting
repeats_after kept [] = []
repeats_after kept (s ∷ rest) = repeat_of s (part_at (key_of s) kept)
    ++ repeats_after (kept_with kept s (part_at (key_of s) kept)) rest

-- The meetings of points and of segments, each given once, and those of segments drawn again.
abbrev pub meetings_among : ℕ → (points segments : List LineSegment) → List Meeting → List Meeting
meetings_among gap points segments again =
    flat_map (close_to gap points segments) points
    ++ (flat_map (beside gap segments) points
    ++ (flat_map (touches segments) segments ++ again))

-- All meetings of lines: points that nearly meet, points beside segments, segments that cross or
-- share more than a point, and segments that are drawn again; each kind in the order of its first
-- part, then of the other.
abbrev pub all_meetings : ℕ → List LineValue → List Meeting
all_meetings gap lines = meetings_among gap (firsts_of (ends_first (all_points lines)))
    (firsts_of (all_segments lines)) (repeats_after [] (all_segments lines))

-- The meetings of lines that are told.
abbrev pub meetings_of_lines : ℕ → List LineValue → List Meeting
meetings_of_lines gap lines = told (all_meetings gap lines)
