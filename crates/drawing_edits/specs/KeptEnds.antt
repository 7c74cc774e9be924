-- What edits keep of the starts and ends of a drawing.
use Rattle.std.specs.Prelude.{◌≡◌, ℕ, Bool, Ok}
use Rattle.design_model.specs.declared.point.Point.{Point}
use Rattle.line_graph.specs.Drawings.{DrawingValue}
use Rattle.line_graph.specs.EndOrders.{HasOrderedEnds}
use Rattle.drawing_edits.specs.declared.drawing_edit.DrawingEdit.{DrawingEdit}
use Rattle.drawing_edits.specs.EditedDrawings.{edited_drawing}
use Rattle.drawing_edits.specs.PlacedEnds.{end_placed, with_end_at}
use Rattle.drawing_edits.specs.RedrawnDrawings.{redrawn}

-- The starts and ends of one drawing are those of another.
pub record HasEndsOf (d new : DrawingValue) : Type 0 where
  pub starts : new.starts ≡ d.starts
  pub ends : new.ends ≡ d.ends

-- A drawing that is drawn again from the parts of a value has its starts and ends.
abbrev pub RedrawnHasEnds : Type 0
RedrawnHasEnds = (d new : DrawingValue) → redrawn d ≡ Ok new → HasEndsOf d new

-- The drawing has one more start at a point where the flag is true, else one more end, and those of
-- the other drawing.
pub record IsPlacedEnd (is_start : Bool) (p : Point) (d new : DrawingValue) : Type 0 where
  pub block : ℕ
  pub kept : HasEndsOf (with_end_at is_start (record { block = block; at = p }) d) new

-- A start or an end that is placed is in the drawing, and all starts and ends before stay.
abbrev pub PlacedEndsAreKept : Type 0
PlacedEndsAreKept = (is_start : Bool) (p : Point) (d new : DrawingValue)
    → end_placed is_start p d ≡ Ok new → IsPlacedEnd is_start p d new

-- An edit keeps starts and ends in the order of their blocks, in which a text lists them.
abbrev pub EditsKeepEndsByBlock : Type 0
EditsKeepEndsByBlock = (one : DrawingEdit) (d new : DrawingValue)
    → edited_drawing one d ≡ Ok new → HasOrderedEnds d → HasOrderedEnds new
