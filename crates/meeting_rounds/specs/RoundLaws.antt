-- Laws of rounds.
use Rattle.std.specs.Prelude.{◌≡◌, ℕ, Bool, true, false, not, List}
use Rattle.std.specs.List.{list_all}
use Rattle.design_model.specs.declared.point.Point.{Point}
use Rattle.line_meetings.specs.declared.meeting.MeetingKind.{MeetingKind}
use Rattle.line_meetings.specs.declared.meeting.MeetingKind.TheVariants as meeting
use Rattle.line_meetings.specs.Meetings.{meetings_of_lines}
use Rattle.line_sections.specs.declared.spot.Spot.{Spot}
use Rattle.line_sections.specs.Lines.{LineValue}
use Rattle.meeting_rounds.specs.declared.rounds.WorkedLines.{WorkedLines}
use Rattle.meeting_rounds.specs.NearLines.{LinesStayNear, StaysNearDrawn, is_near_drawn}
use Rattle.meeting_rounds.specs.Rounds.{settled_lines}
use Rattle.meeting_rounds.specs.TrackedLines.{lines_as_worked, tracked_lines}

-- Lines as they are drawn, with starts and ends, before any round.
abbrev pub unworked : List LineValue → (starts ends : List Spot) → WorkedLines
unworked lines starts ends =
    record { lines = tracked_lines lines; starts = starts; ends = ends }

-- Lines that are worked on are drawn as they were before any round.
abbrev pub UnworkedLinesAreDrawn : Type 0
UnworkedLinesAreDrawn = (lines : List LineValue) → lines_as_worked (tracked_lines lines) ≡ lines

-- A meeting on which no round acts: segments that share more than a point or are drawn again, and
-- segments that cross, unless crossings are listed.
abbrev pub is_passed_over : (lists_crossings : Bool) → MeetingKind → Bool
is_passed_over lists_crossings meeting.Overlap = true
is_passed_over lists_crossings meeting.Repeat = true
is_passed_over lists_crossings meeting.Crossing = not lists_crossings
is_passed_over lists_crossings _ = false

-- Lines stay in all rounds, with starts and ends, if no round acts on their meetings. So lines
-- without a meeting stay.
abbrev pub LinesAtRestStay : Type 0
LinesAtRestStay = (lists_crossings : Bool) (gap : ℕ) (lines : List LineValue)
    (starts ends : List Spot)
    → list_all (λ m. is_passed_over lists_crossings m.kind) (meetings_of_lines gap lines) ≡ true
    → settled_lines lists_crossings gap (unworked lines starts ends) ≡ unworked lines starts ends

-- After all rounds, lines stay near themselves as drawn.
abbrev pub RoundsKeepLinesNear : Type 0
RoundsKeepLinesNear = (lists_crossings : Bool) (gap : ℕ) (lines : List LineValue)
    (starts ends : List Spot) → LinesStayNear gap lines
    (lines_as_worked (settled_lines lists_crossings gap (unworked lines starts ends)).lines)

-- Each point of a line that stays near is near the line as drawn.
abbrev pub NearLinesHaveNearPoints : Type 0
NearLinesHaveNearPoints = (gap : ℕ) (drawn after : List Point) → StaysNearDrawn gap drawn after
    → list_all (is_near_drawn gap drawn) after ≡ true
