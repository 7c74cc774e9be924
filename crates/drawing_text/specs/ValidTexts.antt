-- A text defines only valid drawings: within the limits of a drawing, with valid starts and ends.
use Rattle.std.specs.Prelude.{◌≡◌, ℕ, List, Ok}
use Rattle.line_graph.specs.Drawings.{DrawingValue}
use Rattle.line_graph.specs.GrowingLimits.{IsValidJoinedDrawing}
use Rattle.line_graph.specs.WalkEnds.{IsValidDrawing}
use Rattle.drawing_text.specs.DrawingText.{drawing_as2, drawing_of}

-- A drawing that a text describes in the version that its header names is valid.
abbrev pub TextsDefineValidDrawings : Type 0
TextsDefineValidDrawings = (text : List ℕ) (d : DrawingValue) → drawing_of text ≡ Ok d
    → IsValidDrawing d

-- A drawing that a text describes as version 2 is valid and joined.
abbrev pub TextsAs2DefineValidDrawings : Type 0
TextsAs2DefineValidDrawings = (text : List ℕ) (d : DrawingValue) → drawing_as2 text ≡ Ok d
    → IsValidJoinedDrawing d
