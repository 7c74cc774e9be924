-- Laws of drawings whose lines meet, as `snap` and `cross` write them. Lengths are whole tenths of
-- a millimetre.
use Rattle.std.specs.Prelude.{◌≡◌, ℕ, ◌==◌, Bool, true, not, ◌&&◌, List, map, Ok}
use Rattle.std.specs.List.{list_all, list_any}
use Rattle.line_graph.specs.Drawings.{DrawingValue, KeepsDrawingLimits}
use Rattle.line_meetings.specs.Meetings.{meetings_of_lines}
use Rattle.line_sections.specs.declared.spot.Spot.{Spot}
use Rattle.line_sections.specs.Lines.{LineValue}
use Rattle.meeting_rounds.specs.NearLines.{is_near_drawn}
use Rattle.met_drawings.specs.declared.listed_meetings.MeetingRule.{MeetingRule}
use Rattle.met_drawings.specs.declared.meeting.MetDrawing.{MetDrawing}
use Rattle.met_drawings.specs.declared.meeting_counts.MeetingCounts.{MeetingCounts}
use Rattle.met_drawings.specs.MeetingCounts.{crossing_count, is_left, left_count}
use Rattle.met_drawings.specs.MetDrawings.{met_of}

-- What the report says is left is what is found in the lines that are written.
abbrev pub LeftAreFound : Type 0
LeftAreFound = (rule : MeetingRule) (d : DrawingValue) (starts ends : List Spot) (met : MetDrawing)
    → KeepsDrawingLimits d → met_of rule d starts ends ≡ Ok met
    → met.counts.left ≡ left_count rule met.drawn.lines

-- Where nothing is left, all that is found in the lines that are written are crossings that aren't
-- listed, and copies that are kept: no points that nearly meet, no point beside or on a segment
-- that doesn't list it, and no overlap.
abbrev pub NothingLeftIsSilence : Type 0
NothingLeftIsSilence = (rule : MeetingRule) (d : DrawingValue) (starts ends : List Spot)
    (met : MetDrawing) → KeepsDrawingLimits d → met_of rule d starts ends ≡ Ok met
    → met.counts.left ≡ 0
    → list_all (λ m. not (is_left rule m)) (meetings_of_lines rule.gap met.drawn.lines) ≡ true

-- What was done to lines to which nothing was done, and in which nothing is left.
abbrev pub no_counts : MeetingRule → List LineValue → MeetingCounts
no_counts rule lines = record {
  crossings = crossing_count rule.gap lines;
  moved = 0;
  listed = 0;
  dropped = 0;
  left = 0;
}

-- Where nothing is left, the drawing that is written, with its starts and ends, meets as it is, and
-- each of its lines becomes one.
abbrev pub SecondRunsChangeNothing : Type 0
SecondRunsChangeNothing = (rule : MeetingRule) (d : DrawingValue) (starts ends : List Spot)
    (met : MetDrawing) → KeepsDrawingLimits d → met_of rule d starts ends ≡ Ok met
    → met.counts.left ≡ 0
    → met_of rule met.drawn met.joined.starts met.joined.ends
    ≡ Ok (record met {
      parts = map (λ line. 1) met.drawn.lines;
      counts = no_counts rule met.drawn.lines;
    })

-- A line's points are all near one line as drawn, of its block.
abbrev pub is_near_one : ℕ → (drawn : List LineValue) → LineValue → Bool
is_near_one gap drawn line = list_any
    (λ one. one.block == line.block && list_all (is_near_drawn gap one.points) line.points) drawn

-- The lines that are written are near those as drawn.
abbrev pub WrittenLinesStayNear : Type 0
WrittenLinesStayNear = (rule : MeetingRule) (d : DrawingValue) (starts ends : List Spot)
    (met : MetDrawing) → KeepsDrawingLimits d → met_of rule d starts ends ≡ Ok met
    → list_all (is_near_one rule.gap d.lines) met.drawn.lines ≡ true
