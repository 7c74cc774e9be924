-- A text with comments is read as the text without them.
use Rattle.std.proofs.Common.{◌≡◌, ℕ, List, Ok, sym}
use Rattle.drawing_commands.proofs.Names.{DrawingValue, drawing_of}
use Rattle.drawing_commands.specs.WholeProducts.{IsWholeProduct, commented_text, whole_text}
use Rattle.drawing_commands.specs.CutProducts.{IsCutProduct, cut_text}
use Rattle.drawing_text.specs.EndTexts.{drawn_text}
use Rattle.drawing_comments.specs.CommentLaws.{AreTextComments, CommentsKeepLines, SpokenLinesDecide, spoken_lines}
use Rattle.drawing_comments.specs.declared.text_comments.TextComments.{TextComments}
use Rattle.drawing_text.specs.DrawnTexts.{drawing_as_drawn}
use Rattle.program_shell.specs.Products.{ProductValue, one_file_product}

-- The product that writes a text with comments, where the text without them is read as the joined drawing.
pub whole_written : (output report : List ℕ) (c : TextComments) (drawn joined : DrawingValue) (product : ProductValue)
    → CommentsKeepLines → SpokenLinesDecide → AreTextComments c
    → drawing_of (whole_text drawn joined) ≡ Ok joined → drawing_as_drawn (whole_text drawn joined) ≡ Ok drawn
    → product ≡ one_file_product output (commented_text c drawn joined) report → IsWholeProduct output c drawn joined report product
whole_written output report c drawn joined product keep decide are again lines made =
    let same : spoken_lines (commented_text c drawn joined) ≡ spoken_lines (whole_text drawn joined) =
    keep c (whole_text drawn joined) are in
    record {
      same = same;
      again = (decide (whole_text drawn joined) (commented_text c drawn joined) joined (sym same)).0 again;
      lines = (decide (whole_text drawn joined) (commented_text c drawn joined) drawn (sym same)).1 lines;
      made = made;
    }

-- The product that writes a drawing with its lines cut, and with comments.
pub cut_written : (output report : List ℕ) (c : TextComments) (d : DrawingValue) (product : ProductValue)
    → CommentsKeepLines → SpokenLinesDecide → AreTextComments c → drawing_of (drawn_text d) ≡ Ok d
    → product ≡ one_file_product output (cut_text c d) report → IsCutProduct output c d report product
cut_written output report c d product keep decide are again made =
    let same : spoken_lines (cut_text c d) ≡ spoken_lines (drawn_text d) = keep c (drawn_text d) are in
    record {
      same = same;
      again = (decide (drawn_text d) (cut_text c d) d (sym same)).0 again;
      made = made;
    }
