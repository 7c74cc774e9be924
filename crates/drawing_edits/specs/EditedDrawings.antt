-- Edits of a drawing and their results.
use Rattle.std.specs.Prelude.{◌≤◌, IsTrue, true, false, Result}
use Rattle.design_edits.specs.Motions.{is_small_motion, motion_map}
use Rattle.drawing_edits.specs.declared.drawing_edit.DrawingEdit.{DrawingEdit}
use Rattle.drawing_edits.specs.declared.drawing_edit.DrawingEdit.TheVariants as edit
use Rattle.drawing_edits.specs.declared.edit_fault.EditFault.{EditFault}
use Rattle.drawing_edits.specs.EditFaults.{edit_answer}
use Rattle.drawing_edits.specs.MovedDrawings.{centred_drawing, moved_drawing}
use Rattle.drawing_edits.specs.PieceOrders.{piece_put_before}
use Rattle.drawing_edits.specs.PlacedEnds.{end_placed}
use Rattle.drawing_edits.specs.RedrawnDrawings.{redrawn}
use Rattle.line_graph.specs.Drawings.{DrawingValue}
use Rattle.step_splitter.specs.declared.segment.TheConstants.{MAX_STEP}

-- The drawing after an edit, or why the edit is refused.
abbrev pub edited_drawing : DrawingEdit → DrawingValue → Result DrawingValue EditFault
edited_drawing (edit.Move motion) d = edit_answer (redrawn (moved_drawing (motion_map motion) d))
edited_drawing edit.Centre d = edit_answer (redrawn (centred_drawing d))
edited_drawing (edit.Step step) d = edit_answer (redrawn (record d { step = step }))
edited_drawing (edit.Order first second) d = piece_put_before first second d
edited_drawing (edit.Start at) d = end_placed true at d
edited_drawing (edit.End at) d = end_placed false at d

-- The numbers of an edit are within their limits: shifts are, the step is from 1 to MAX_STEP, and
-- pieces are numbered from 1.
abbrev pub IsDrawingEdit : DrawingEdit → Type 0
IsDrawingEdit (edit.Move motion) = IsTrue (is_small_motion motion)
IsDrawingEdit edit.Centre = Unit {0}
IsDrawingEdit (edit.Step step) = (1 ≤ step) × (step ≤ MAX_STEP)
IsDrawingEdit (edit.Order first second) = (1 ≤ first) × (1 ≤ second)
IsDrawingEdit (edit.Start at) = Unit {0}
IsDrawingEdit (edit.End at) = Unit {0}
