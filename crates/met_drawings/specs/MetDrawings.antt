-- Read this one first: a drawing whose lines meet. In rounds, points that nearly meet become one,
-- points move onto segments beside which they lie, and lines list the points of their block on
-- their segments and, by the rule, those where they cross. Then segments that copy an earlier one
-- are left out, unless copies are kept. Starts and ends move with their points.
use Rattle.std.specs.Prelude.{Bool, false, List, Option, Some, None, Result, Ok, Err}
use Rattle.drawing_edits.specs.RedrawnDrawings.{drawn_lines, with_starts_and_ends}
use Rattle.line_sections.specs.Lines.{LineValue}
use Rattle.line_sections.specs.declared.spot.Spot.{Spot}
use Rattle.line_graph.specs.declared.draw_kind.DrawKind.{DrawKind}
use Rattle.line_graph.specs.Drawings.{DrawingValue}
use Rattle.line_graph.specs.GrowingDrawings.{and_then, draw_is_out_of_memory}
use Rattle.line_graph.specs.JoinedDrawings.{joined_drawing}
use Rattle.meeting_rounds.specs.declared.rounds.WorkedLines.{WorkedLines}
use Rattle.meeting_rounds.specs.TrackedLines.{lines_as_worked}
use Rattle.met_drawings.specs.Copies.{part_counts_of}
use Rattle.met_drawings.specs.declared.listed_meetings.MeetingRule.{MeetingRule}
use Rattle.met_drawings.specs.declared.meet_fault.MeetFault.{MeetFault}
use Rattle.met_drawings.specs.declared.meet_fault.MeetFault.TheVariants as fault
use Rattle.met_drawings.specs.declared.meet_fault.VanishedLine.{VanishedLine}
use Rattle.met_drawings.specs.declared.meeting.MetDrawing.{MetDrawing}
use Rattle.met_drawings.specs.ListedMeetings.{settled_by, unless_kept, vanished_after}
use Rattle.met_drawings.specs.MeetingCounts.{meeting_counts_of}

-- Lines, unless one of them has vanished.
abbrev pub unless_one_vanished : Option VanishedLine → List LineValue
    → Result (List LineValue) MeetFault
unless_one_vanished None lines = Ok lines
unless_one_vanished (Some line) lines = Err (fault.Vanished line)

-- A result whose fault is one of the drawing.
abbrev pub unless_beyond : {A : Type 0} → Result A DrawKind → Result A MeetFault
unless_beyond (Ok a) = Ok a
unless_beyond (Err kind) = Err (fault.Limit kind)

-- Lines that list their meetings, without copies unless these are kept, or their fault.
abbrev pub lines_met : (keeps_copies : Bool) → List LineValue → Result (List LineValue) MeetFault
lines_met keeps_copies listing =
    and_then (unless_one_vanished (vanished_after 0 listing) listing) (λ lines.
    Ok (unless_kept keeps_copies lines))

-- A drawing whose lines meet, as drawn and joined, with what was done to the given lines.
abbrev pub met_value : MeetingRule → List LineValue → WorkedLines → List LineValue
    → (drawn joined : DrawingValue) → MetDrawing
met_value rule lines worked met drawn joined = record {
  drawn = drawn;
  joined = joined;
  parts = part_counts_of rule.keeps_copies (lines_as_worked worked.lines);
  counts = meeting_counts_of rule lines worked.lines (lines_as_worked worked.lines) met;
}

-- The drawing whose lines meet, where the lines were worked on, or its fault.
abbrev pub met_after : MeetingRule → DrawingValue → WorkedLines → Result MetDrawing MeetFault
met_after rule d worked =
    and_then (lines_met rule.keeps_copies (lines_as_worked worked.lines)) (λ met.
    and_then (unless_beyond (drawn_lines (record d { lines = met }))) (λ drawn.
    and_then (unless_beyond (and_then (joined_drawing drawn) (λ joined.
    with_starts_and_ends joined worked.starts worked.ends))) (λ joined.
    Ok (met_value rule d.lines worked met drawn joined))))

-- The drawing whose lines meet, of a drawing's lines with the given starts and ends, or its fault.
abbrev pub met_of : MeetingRule → DrawingValue → (starts ends : List Spot)
    → Result MetDrawing MeetFault
met_of rule d starts ends = met_after rule d (settled_by rule d.lines starts ends)

-- A fault is out of memory.
abbrev pub meet_is_out_of_memory : MeetFault → Bool
meet_is_out_of_memory (fault.Vanished line) = false
meet_is_out_of_memory (fault.Limit kind) = draw_is_out_of_memory kind
