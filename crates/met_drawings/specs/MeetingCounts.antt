-- What was done to lines. Lengths are whole tenths of a millimetre.
use Rattle.std.specs.Prelude.{ℕ, ◌-◌, Bool, true, false, not, ◌&&◌, ◌||◌, List, length, Option, Some, None}
use Rattle.std.specs.List.{count_by, flat_map}
use Rattle.drawing_review.specs.Frames.{grid_point}
use Rattle.drawing_review.specs.Meetings.{is_same_grid_point}
use Rattle.line_meetings.specs.declared.meeting.Meeting.{Meeting}
use Rattle.line_meetings.specs.declared.meeting.MeetingKind.{MeetingKind}
use Rattle.line_meetings.specs.declared.meeting.MeetingKind.TheVariants as meeting
use Rattle.line_meetings.specs.Meetings.{meetings_of_lines}
use Rattle.line_sections.specs.Lines.{LineValue, points_of_lines}
use Rattle.meeting_rounds.specs.declared.point_bounds.PointBounds.{PointBounds}
use Rattle.meeting_rounds.specs.declared.tracked_lines.TrackedLine.{TrackedLine}
use Rattle.meeting_rounds.specs.declared.tracked_lines.TrackedPoint.{TrackedPoint}
use Rattle.met_drawings.specs.declared.listed_meetings.MeetingRule.{MeetingRule}
use Rattle.met_drawings.specs.declared.meeting_counts.MeetingCounts.{MeetingCounts}

-- The points of lines that are worked on, in order.
abbrev pub points_worked : List TrackedLine → List TrackedPoint
points_worked lines = flat_map (λ line. line.points) lines

-- A point stands for none as drawn: it was put into a segment.
abbrev pub is_put : TrackedPoint → Option PointBounds → Bool
is_put p None = true
is_put p (Some bounds) = false

-- A point stands for one as drawn that lies elsewhere.
abbrev pub has_moved : TrackedPoint → Option PointBounds → Bool
has_moved p None = false
has_moved p (Some bounds) = not (is_same_grid_point bounds.least (grid_point p.at)
    && is_same_grid_point bounds.greatest (grid_point p.at))

-- The number of segments of lines: one less than points for each line.
abbrev pub segment_count : List LineValue → ℕ
segment_count lines = length (points_of_lines lines) - length lines

-- A meeting is a crossing.
abbrev pub is_crossing : MeetingKind → Bool
is_crossing meeting.Crossing = true
is_crossing _ = false

-- A meeting is a segment that is drawn again.
abbrev pub is_repeat : MeetingKind → Bool
is_repeat meeting.Repeat = true
is_repeat _ = false

-- A meeting is one that the rule is about: crossings only where they are listed, and segments drawn
-- again only where they aren't kept.
abbrev pub is_left : MeetingRule → Meeting → Bool
is_left rule m = (rule.lists_crossings || not (is_crossing m.kind))
    && not (rule.keeps_copies && is_repeat m.kind)

-- The number of crossings of lines.
abbrev pub crossing_count : ℕ → List LineValue → ℕ
crossing_count gap lines = count_by (λ m. is_crossing m.kind) (meetings_of_lines gap lines)

-- The number of meetings that are left in lines.
abbrev pub left_count : MeetingRule → List LineValue → ℕ
left_count rule lines = count_by (is_left rule) (meetings_of_lines rule.gap lines)

-- What was done to lines: how many crossings they had, how many points moved, how many were listed,
-- how many segments left out, and how many meetings are left. The lines were worked on, then are
-- those that list their meetings, and then those without copies.
abbrev pub meeting_counts_of : MeetingRule → List LineValue → List TrackedLine
    → (listing met : List LineValue)
    → MeetingCounts
meeting_counts_of rule lines worked listing met = record {
  crossings = crossing_count rule.gap lines;
  moved = count_by (λ p. has_moved p p.drawn) (points_worked worked);
  listed = count_by (λ p. is_put p p.drawn) (points_worked worked);
  dropped = segment_count listing - segment_count met;
  left = left_count rule met;
}
