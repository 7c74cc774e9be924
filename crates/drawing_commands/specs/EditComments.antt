-- The comments of an edited drawing. Edits keep the lines in their order, and which of them are one
-- piece, but for those that order pieces. Comments move with these alone, and then line for line.
use Rattle.std.specs.Prelude.{Bool, true, false, List, [], ◌∷◌, Option, Some, None, Result, Ok, Err, unwrap_or, if◌then◌else◌}
use Rattle.drawing_comments.specs.MovedComments.{block_comments, has_no_line_comments}
use Rattle.drawing_comments.specs.OrderedComments.{comments_of_cut, comments_of_sections}
use Rattle.drawing_comments.specs.declared.text_comments.TextComments.{TextComments}
use Rattle.drawing_edits.specs.declared.drawing_edit.DrawingEdit.{DrawingEdit}
use Rattle.drawing_edits.specs.declared.drawing_edit.DrawingEdit.TheVariants as edit
use Rattle.drawing_edits.specs.declared.edit_fault.EditFault.{EditFault}
use Rattle.drawing_edits.specs.EditedDrawings.{edited_drawing}
use Rattle.line_graph.specs.Drawings.{DrawingValue}
use Rattle.drawing_commands.specs.declared.text_reading.TextRead.{TextRead}

-- An edit orders pieces.
abbrev pub orders_pieces : DrawingEdit → Bool
orders_pieces (edit.Order first second) = true
orders_pieces other = false

-- The drawing after an edit, or what was before where the edit is refused.
abbrev pub edited_if : Option DrawingValue → Result DrawingValue EditFault
    → Option DrawingValue
edited_if before (Ok d) = Some d
edited_if before (Err why) = before

-- The drawing after the orders before an edit, if there are some, and after the edit, if it is one.
abbrev pub drawing_with_order : DrawingValue → Option DrawingValue → DrawingEdit
    → Option DrawingValue
drawing_with_order d before one =
    if orders_pieces one then edited_if before (edited_drawing one (unwrap_or before d)) else before

-- The drawing after those before, and after the edits that order pieces, alone.
abbrev pub orders_from : DrawingValue → Option DrawingValue → List DrawingEdit
    → Option DrawingValue
orders_from d before [] = before
orders_from d before (one ∷ rest) = orders_from d (drawing_with_order d before one) rest

-- The drawing after the edits that order pieces, alone, if one of them does.
abbrev pub drawing_ordered_alone : List DrawingEdit → DrawingValue → Option DrawingValue
drawing_ordered_alone edits d = orders_from d None edits

-- The comments before the lines of an edited drawing, by the drawing after its orders alone: line
-- for line, and before the first part of a line that an edit cut.
abbrev pub comments_in_order : TextRead → Option DrawingValue → (edited : DrawingValue)
    → TextComments
comments_in_order text None edited =
    comments_of_cut text.comments text.lines.drawn.drawing.lines edited.lines
comments_in_order text (Some ordered) edited =
    comments_of_cut (comments_of_sections text.comments text.lines.drawn.drawing.lines
    text.lines.drawing.lines ordered.lines) ordered.lines edited.lines

-- The comments of what was read, before the lines of the drawing after edits. Where no line has
-- one, there are those of blocks.
abbrev pub comments_of_edits : TextRead → List DrawingEdit → (edited : DrawingValue) → TextComments
comments_of_edits text edits edited =
    if has_no_line_comments text.comments then block_comments text.comments
    else comments_in_order text (drawing_ordered_alone edits text.lines.drawing) edited
