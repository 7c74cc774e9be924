-- What the products of the commands state: each part needs a field of its own.
use Rattle.std.proofs.Common.{◌≡◌, List, ℕ, Ok, length}
use Rattle.design_model.specs.Extents.{extent_of_points}
use Rattle.drawing_commands.proofs.Names.{DrawingValue, MetDrawing, drawing_of, SpacedDrawing, IsMeetProduct, IsSpaceProduct, DrawingEdit, IsEdited, IsFreeProduct, IsLook, IsNearProduct}
use Rattle.drawing_commands.specs.CutProducts.{IsCutProduct, cut_text}
use Rattle.drawing_commands.specs.EditComments.{comments_of_edits}
use Rattle.drawing_commands.specs.MeetOrders.{meet_report}
use Rattle.drawing_commands.specs.NearFiles.{near_comments, near_report}
use Rattle.drawing_commands.specs.WholeProducts.{IsWholeProduct, commented_text, whole_text, IsWhole}
use Rattle.drawing_commands.specs.declared.meeting.MeetReport.{MeetReport}
use Rattle.drawing_commands.specs.declared.text_reading.TextRead.{TextRead}
use Rattle.drawing_comments.specs.CommentLaws.{spoken_lines}
use Rattle.drawing_comments.specs.MovedComments.{comments_of_parts}
use Rattle.drawing_comments.specs.declared.text_comments.TextComments.{TextComments}
use Rattle.drawing_reports.specs.FreeTexts.{free_report}
use Rattle.drawing_reports.specs.LookTexts.{look_report}
use Rattle.drawing_reports.specs.SpaceTexts.{space_report}
use Rattle.drawing_reports.specs.Spacings.{spacings_of_lines}
use Rattle.drawing_text.specs.DrawnTexts.{drawing_as_drawn}
use Rattle.drawing_text.specs.EndTexts.{drawn_text}
use Rattle.drawing_text.specs.TextLaws.{IsJoinedFrom}
use Rattle.drawing_text.specs.declared.drawn_lines.DrawnLines.{DrawnLines}
use Rattle.free_ends.specs.FreedDrawings.{IsFreed}
use Rattle.line_graph.specs.EndOrders.{HasOrderedEnds}
use Rattle.line_graph.specs.GrowingDrawings.{step_count}
use Rattle.line_graph.specs.Pieces.{ArePieces}
use Rattle.line_graph.specs.PiecesOfDrawings.{ArePiecesOf}
use Rattle.line_graph.specs.WalkEnds.{HasNoEnds}
use Rattle.line_graph.specs.declared.piece.Piece.{Piece}
use Rattle.line_meetings.specs.Meetings.{meetings_of_lines}
use Rattle.line_sections.specs.Lines.{points_of_lines}
use Rattle.near_pieces.specs.NearDrawings.{IsNear}
use Rattle.piece_stitches.specs.PieceStitches.{stitches_of_pieces}
use Rattle.program_shell.specs.Products.{ProductValue, one_file_product, report_product}
use Rattle.program_texts.specs.MigrationReports.{migrate_report}

-- The one file is the text with comments, with that report; it has the lines of the text without comments, is read as the joined
-- drawing, and its lines as they are drawn.
pub known_whole : (output report : List ℕ) (c : TextComments) (drawn joined : DrawingValue) (p : ProductValue)
    → IsWholeProduct output c drawn joined report p
    → (p ≡ one_file_product output (commented_text c drawn joined) report)
    × (spoken_lines (commented_text c drawn joined) ≡ spoken_lines (whole_text drawn joined))
    × (drawing_of (commented_text c drawn joined) ≡ Ok joined) × (drawing_as_drawn (commented_text c drawn joined) ≡ Ok drawn)
known_whole output report c drawn joined p is = (is.made, is.same, is.again, is.lines)

-- The report counts the pieces before and after.
pub known_met : (report : MeetReport) (output : List ℕ) (c : TextComments) (d : DrawingValue) (met : MetDrawing) (p : ProductValue)
    → IsMeetProduct report output c d met p
    → (before : List Piece) × ArePiecesOf d before × ((after : List Piece) × ArePiecesOf met.joined after
    × IsWholeProduct output (comments_of_parts c met.parts) met.drawn met.joined
    (meet_report report met.counts (length before) (length after)) p)
known_met report output c d met p is = (is.before, is.before_are, (is.after, is.after_are, is.written))

-- The report counts the pieces that are sewn.
pub known_spaced : (output : List ℕ) (c : TextComments) (before : DrawingValue) (spaced : SpacedDrawing) (p : ProductValue)
    → IsSpaceProduct output c before spaced p → (pieces : List Piece) × ArePiecesOf spaced.joined pieces
    × IsWholeProduct output c spaced.drawn spaced.joined (space_report before spaced.drawn (length pieces)) p
known_spaced output c before spaced p is = (is.pieces, is.pieces_are, is.written)

-- A text whose lines are cut has the lines of the text without comments, and is read as the drawing.
pub known_cut : (output report : List ℕ) (c : TextComments) (d : DrawingValue) (p : ProductValue) → IsCutProduct output c d report p
    → (spoken_lines (cut_text c d) ≡ spoken_lines (drawn_text d)) × (drawing_of (cut_text c d) ≡ Ok d)
    × (p ≡ one_file_product output (cut_text c d) report)
known_cut output report c d p is = (is.same, is.again, is.made)

pub known_joined : (drawn joined : DrawingValue) → IsWhole drawn joined → IsJoinedFrom drawn joined × HasOrderedEnds joined
    × HasNoEnds drawn
known_joined drawn joined is = (is.whole, is.ordered, is.no_ends)

-- The report of `free` is about the ends that were found.
pub known_freed : (output : List ℕ) (c : TextComments) (drawn before : DrawingValue) (p : ProductValue)
    (is : IsFreeProduct output c drawn before p) → IsFreed drawn before is.freed
    × IsWholeProduct output c drawn is.freed.joined (free_report is.freed.pieces is.freed.found) p
known_freed output c drawn before p is = (is.is, is.written)

-- The report of `near` has the travel of the drawing that was read, and of the one that is written.
pub known_near : (output : List ℕ) (text : TextRead) (p : ProductValue) (is : IsNearProduct output text p)
    → IsNear text.lines.drawing is.found
    × IsCutProduct output (near_comments text is.found.drawing) is.found.drawing
    (near_report is.found.before is.found.after is.found.pieces) p
known_near output text p is = (is.near, is.written)

-- The report of `look` is about the pieces that are sewn and the lines as they are drawn.
pub known_look : (gap : ℕ) (d : DrawingValue) (drawn : DrawnLines) (p : ProductValue) (is : IsLook gap d drawn p)
    → ArePiecesOf d is.pieces × (p ≡ report_product (look_report (extent_of_points (points_of_lines drawn.drawing.lines)) is.pieces
    (stitches_of_pieces d is.pieces) (meetings_of_lines gap drawn.drawing.lines)
    (spacings_of_lines drawn.drawing.step drawn.drawing.lines)))
known_look gap d drawn p is = (is.pieces_are, is.made)

-- The report of `edit` is about the edited drawing, and the comments are those of the text that was read.
pub known_edited : (output : List ℕ) (edits : List DrawingEdit) (text : TextRead) (d : DrawingValue) (p : ProductValue)
    (is : IsEdited output edits text d p) → ArePieces d is.pieces
    × IsCutProduct output (comments_of_edits text edits d) d
    (migrate_report (length d.lines) (length is.pieces) (step_count d.step d.lines)) p
known_edited output edits text d p is = (is.pieces_are, is.written)
