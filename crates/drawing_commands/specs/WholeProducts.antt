-- Drawings whose lines are written whole, as they are drawn, with starts and ends, and with the
-- comments of the text that was read.
use Rattle.std.specs.Prelude.{◌≡◌, ℕ, List, Ok}
use Rattle.drawing_comments.specs.declared.text_comments.TextComments.{TextComments}
use Rattle.drawing_comments.specs.CommentedTexts.{with_comments}
use Rattle.drawing_comments.specs.CommentLaws.{spoken_lines}
use Rattle.line_graph.specs.Drawings.{DrawingValue}
use Rattle.line_graph.specs.EndOrders.{HasOrderedEnds}
use Rattle.line_graph.specs.WalkEnds.{HasNoEnds}
use Rattle.drawing_text.specs.DrawingText.{drawing_of}
use Rattle.drawing_text.specs.DrawnTexts.{drawing_as_drawn}
use Rattle.drawing_text.specs.EndTexts.{drawn_text, with_ends_of}
use Rattle.drawing_text.specs.TextLaws.{IsJoinedFrom}
use Rattle.program_shell.specs.Products.{ProductValue, one_file_product}

-- Lines as they are drawn, without starts and ends, and the drawing that they are joined to, whose
-- starts and ends are in the order of their blocks.
pub record IsWhole (drawn joined : DrawingValue) : Type 0 where
  pub whole : IsJoinedFrom drawn joined
  pub ordered : HasOrderedEnds joined
  pub no_ends : HasNoEnds drawn

-- The text of lines as they are drawn, with the starts and ends of the joined drawing.
abbrev pub whole_text : (drawn joined : DrawingValue) → List ℕ
whole_text drawn joined = drawn_text (with_ends_of drawn joined)

-- The text of lines as they are drawn, with comments before its blocks and lines.
abbrev pub commented_text : TextComments → (drawn joined : DrawingValue) → List ℕ
commented_text comments drawn joined = with_comments comments (whole_text drawn joined)

-- The product that writes lines as they are drawn, with comments and a report. The text has the
-- lines of the text without comments, and is read as the joined drawing, and its lines as they are
-- drawn.
pub record IsWholeProduct (output : List ℕ) (comments : TextComments) (drawn joined : DrawingValue)
    (report : List ℕ) (product : ProductValue) : Type 0 where
  pub same : spoken_lines (commented_text comments drawn joined)
      ≡ spoken_lines (whole_text drawn joined)
  pub again : drawing_of (commented_text comments drawn joined) ≡ Ok joined
  pub lines : drawing_as_drawn (commented_text comments drawn joined) ≡ Ok drawn
  pub made : product ≡ one_file_product output (commented_text comments drawn joined) report
