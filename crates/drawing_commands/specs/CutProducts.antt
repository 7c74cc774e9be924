-- Drawings that are written with their lines cut where they meet, and with comments.
use Rattle.std.specs.Prelude.{◌≡◌, ℕ, List, Ok}
use Rattle.drawing_comments.specs.declared.text_comments.TextComments.{TextComments}
use Rattle.drawing_comments.specs.CommentedTexts.{with_comments}
use Rattle.drawing_comments.specs.CommentLaws.{spoken_lines}
use Rattle.line_graph.specs.Drawings.{DrawingValue}
use Rattle.drawing_text.specs.DrawingText.{drawing_of}
use Rattle.drawing_text.specs.EndTexts.{drawn_text}
use Rattle.program_shell.specs.Products.{ProductValue, one_file_product}

-- The canonical text of a drawing, with comments before its blocks and lines.
abbrev pub cut_text : TextComments → DrawingValue → List ℕ
cut_text comments d = with_comments comments (drawn_text d)

-- The product that writes a drawing with its lines cut, with a report. The text has the lines of
-- the canonical text, and is read as the drawing.
pub record IsCutProduct (output : List ℕ) (comments : TextComments) (d : DrawingValue)
    (report : List ℕ) (product : ProductValue) : Type 0 where
  pub same : spoken_lines (cut_text comments d) ≡ spoken_lines (drawn_text d)
  pub again : drawing_of (cut_text comments d) ≡ Ok d
  pub made : product ≡ one_file_product output (cut_text comments d) report
