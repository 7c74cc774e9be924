-- Moves of a drawing that draw exactly the moved drawing: shifts, turns and mirrorings.
use Rattle.std.specs.Prelude.{◌≡◌, Ok}
use Rattle.design_edits.specs.declared.motion.Motion.{Motion}
use Rattle.design_edits.specs.Motions.{motion_map}
use Rattle.drawing_edits.specs.declared.drawing_edit.DrawingEdit.TheVariants as edit
use Rattle.drawing_edits.specs.EditedDrawings.{edited_drawing}
use Rattle.drawing_edits.specs.MovedDrawings.{moved_drawing}
use Rattle.line_graph.specs.Drawings.{DrawingValue, KeepsDrawingLimits}
use Rattle.line_graph.specs.GrowingLimits.{IsValidJoinedDrawing}

-- A valid joined drawing that is shifted, turned or mirrored is drawn as exactly the moved drawing,
-- where this keeps the limits of a drawing.
abbrev pub MovesAreExact : Type 0
MovesAreExact = (motion : Motion) (d : DrawingValue) → IsValidJoinedDrawing d
    → KeepsDrawingLimits (moved_drawing (motion_map motion) d)
    → edited_drawing (edit.Move motion) d ≡ Ok (moved_drawing (motion_map motion) d)
