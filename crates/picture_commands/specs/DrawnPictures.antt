-- The picture of a drawing.
use Rattle.std.specs.Prelude.{◌≡◌, ℕ, List, [], Option, Result, Ok, Err}
use Rattle.drawing_picture.specs.DrawingPictures.{IsDrawingPicture}
use Rattle.drawing_text.specs.declared.draw_fault.DrawFault.{DrawFault}
use Rattle.drawing_text.specs.declared.lines_read.LinesRead.{LinesRead}
use Rattle.drawing_text.specs.DrawingLines.{lines_read}
use Rattle.picture_parts.specs.declared.sizes.PictureSize.{PictureSize}
use Rattle.program_shell.specs.Plans.{Plan, accepts, reads, refuses}
use Rattle.program_shell.specs.Products.{ProductValue, one_file_product}
use Rattle.program_texts.specs.DrawingTexts.{draw_fault_text}

-- An order: the picture of a drawing, by the names of the two files, with a size or none.
pub record DrawnOrder : Type 0 where
  pub drawing : List ℕ
  pub output : List ℕ
  pub size : Option PictureSize

-- The product is the picture of the drawing.
pub record IsPictureDrawn (order : DrawnOrder) (read : LinesRead) (product : ProductValue)
    : Type 0 where
  pub text : List ℕ
  pub shown : IsDrawingPicture read.drawing read.drawn.drawing.lines order.size text
  pub made : product ≡ one_file_product order.output text []

-- The plan for the result of reading the drawing: its picture is written, and a fault is refused.
abbrev pub drawn_read : DrawnOrder → Result LinesRead DrawFault → Plan
drawn_read order (Ok read) = accepts (IsPictureDrawn order read)
drawn_read order (Err fault) = refuses (draw_fault_text order.drawing fault)

-- The plan of an order: the drawing is read, then its picture is written.
abbrev pub drawn_plan : DrawnOrder → Plan
drawn_plan order = reads order.drawing (λ bytes. drawn_read order (lines_read bytes))
