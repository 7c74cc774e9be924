-- The commands `snap` and `cross`: a drawing is written whose lines list where they should meet.
-- Its lines are written whole, as they are drawn but where a copy of a segment is left out, and
-- its starts and ends move with their points.
use Rattle.std.specs.Prelude.{ℕ, Bool, true, false, List, length, Result, Ok, Err}
use Rattle.drawing_comments.specs.declared.text_comments.TextComments.{TextComments}
use Rattle.drawing_comments.specs.MovedComments.{comments_of_parts}
use Rattle.line_graph.specs.Drawings.{DrawingValue}
use Rattle.line_graph.specs.declared.piece.Piece.{Piece}
use Rattle.line_graph.specs.PiecesOfDrawings.{ArePiecesOf}
use Rattle.met_drawings.specs.declared.listed_meetings.MeetingRule.{MeetingRule}
use Rattle.met_drawings.specs.declared.meet_fault.MeetFault.{MeetFault}
use Rattle.met_drawings.specs.declared.meeting.MetDrawing.{MetDrawing}
use Rattle.met_drawings.specs.declared.meeting_counts.MeetingCounts.{MeetingCounts}
use Rattle.met_drawings.specs.MetDrawings.{met_of}
use Rattle.program_shell.specs.Plans.{Plan, accepts, refuses}
use Rattle.program_shell.specs.Products.{ProductValue}
use Rattle.drawing_commands.specs.declared.text_reading.TextRead.{TextRead}
use Rattle.drawing_commands.specs.TextPlans.{text_plan}
use Rattle.drawing_commands.specs.WholeProducts.{IsWholeProduct}
use Rattle.drawing_commands.specs.declared.meeting.MeetReport.{MeetReport}
use Rattle.drawing_commands.specs.declared.meeting.MeetReport.TheVariants as report
use Rattle.drawing_reports.specs.MeetingTexts.{cross_report, snap_report}
use Rattle.drawing_commands.specs.MeetFaults.{meet_fault_text}

-- The order of `snap` or `cross`: the rule, the report, the drawing to read, and the file to write.
pub record MeetOrder : Type 0 where
  pub rule : MeetingRule
  pub report : MeetReport
  pub input : List ℕ
  pub output : List ℕ

-- The order of `snap`: points within a gap meet.
abbrev pub snap_order : (gap : ℕ) → (keeps_copies : Bool) → (input output : List ℕ) → MeetOrder
snap_order gap keeps_copies input output = record {
  rule = record { gap = gap; lists_crossings = false; keeps_copies = keeps_copies };
  report = report.Snap;
  input = input;
  output = output;
}

-- The order of `cross`: lines list where they cross.
abbrev pub cross_order : (keeps_copies : Bool) → (input output : List ℕ) → MeetOrder
cross_order keeps_copies input output = record {
  rule = record { gap = 0; lists_crossings = true; keeps_copies = keeps_copies };
  report = report.Cross;
  input = input;
  output = output;
}

-- The report of a command on what was done to lines.
abbrev pub meet_report : MeetReport → MeetingCounts → (before after : ℕ) → List ℕ
meet_report report.Snap counts before after = snap_report counts before after
meet_report report.Cross counts before after = cross_report counts before after

-- The product: the lines that meet, written whole, and a report on the drawing before and after.
pub record IsMeetProduct (report : MeetReport) (output : List ℕ) (comments : TextComments)
    (d : DrawingValue) (met : MetDrawing) (product : ProductValue) : Type 0 where
  pub before : List Piece
  pub before_are : ArePiecesOf d before
  pub after : List Piece
  pub after_are : ArePiecesOf met.joined after
  pub written : IsWholeProduct output (comments_of_parts comments met.parts) met.drawn met.joined
      (meet_report report met.counts (length before) (length after)) product

-- The plan for a drawing and the one whose lines meet: it is accepted, and a fault is refused.
abbrev pub meet_made : MeetOrder → TextComments → DrawingValue → Result MetDrawing MeetFault → Plan
meet_made order comments d (Ok met) =
    accepts (IsMeetProduct order.report order.output comments d met)
meet_made order comments d (Err fault) = refuses (meet_fault_text order.input fault)

-- The plan for a drawing and its lines as they are drawn: these are made to meet, with the starts
-- and ends of the drawing.
abbrev pub meet_kept : MeetOrder → TextRead → Plan
meet_kept order text = meet_made order text.comments text.lines.drawing
    (met_of order.rule text.lines.drawn.drawing text.lines.drawing.starts text.lines.drawing.ends)

-- The plan: read the drawing file, then write the drawing whose lines meet.
abbrev pub meet_plan : MeetOrder → Plan
meet_plan order = text_plan order.input (meet_kept order)
