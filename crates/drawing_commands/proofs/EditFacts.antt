-- Worked values of the arguments of `edit`, and of edits in order.
use Rattle.std.proofs.Common.{◌≡◌, ℕ, pos, negsuc, [], ◌∷◌, List, Some, None, Err, codes, refl}
use Rattle.std.specs.Fmt.{digits}
use Rattle.drawing_commands.proofs.Names.{DrawingValue, drawing_edit_order, edits_applied, parsed_drawing_edit, parsed_drawing_edits, editing, bad_edit_text, edit_fault_text, drawing_order_of}
use Rattle.design_edits.specs.declared.axis.Axis.TheVariants as axis
use Rattle.design_edits.specs.declared.motion.Motion.TheVariants as motion
use Rattle.drawing_edits.specs.declared.drawing_edit.DrawingEdit.TheVariants as edit
use Rattle.drawing_edits.specs.declared.edit_fault.EditFault.TheVariants as fault
use Rattle.drawing_commands.specs.Requests.{command_order}
use Rattle.line_graph.specs.declared.draw_kind.DrawKind.TheVariants as kind

pub known_parsed_drawing_edits : (parsed_drawing_edits (codes "shift=-5,70" ∷ codes "turn=3" ∷ codes "mirror=y" ∷ codes "centre"
    ∷ codes "step=2047" ∷ [])
    ≡ Some (edit.Move (motion.Shift (negsuc 4) (pos 70)) ∷ edit.Move (motion.Turn 3) ∷ edit.Move (motion.Mirror axis.Y)
    ∷ edit.Centre ∷ edit.Step 2047 ∷ []))
    × (parsed_drawing_edits (codes "order=12,1" ∷ codes "start=-5,70" ∷ codes "end=30000,-30000" ∷ [])
    ≡ Some (edit.Order 12 1 ∷ edit.Start (record { x = negsuc 4; y = pos 70 })
    ∷ edit.End (record { x = pos 30000; y = negsuc 29999 }) ∷ []))
    × (parsed_drawing_edits (codes "order=300,1" ∷ codes "order=1024,1024" ∷ [])
    ≡ Some (edit.Order 300 1 ∷ edit.Order 1024 1024 ∷ []))
known_parsed_drawing_edits = (refl, refl, refl)

-- no edits of a drawing
abbrev IsNoEdit : List ℕ → Type 0
IsNoEdit word = parsed_drawing_edit word ≡ None

pub known_no_edits : IsNoEdit (codes "step=0") × IsNoEdit (codes "step=2048") × IsNoEdit (codes "step") × IsNoEdit (codes "centre=")
    × IsNoEdit (codes "thread=1,2") × IsNoEdit (codes "turn=4") × IsNoEdit (codes "shift=60001,0")
known_no_edits = (refl, refl, refl, refl, refl, refl, refl)

pub known_no_orders : IsNoEdit (codes "order=0,1") × IsNoEdit (codes "order=1,0") × IsNoEdit (codes "order=1")
    × IsNoEdit (codes "order=1,2,3") × IsNoEdit (codes "order=1,1025") × IsNoEdit (codes "order=1025,1")
known_no_orders = (refl, refl, refl, refl, refl, refl)

pub known_no_points : IsNoEdit (codes "start=30001,0") × IsNoEdit (codes "start=5") × IsNoEdit (codes "end=,3")
    × IsNoEdit (codes "end") × IsNoEdit (codes "ende=1,2")
known_no_points = (refl, refl, refl, refl, refl)

-- the text about an edit that is refused, and the names of the other faults
pub known_no_piece : bad_edit_text (codes "a.rw") (record { number = 2; fault = fault.NoPiece 10 })
    ≡ codes "a.rw: edit 2: no piece 10"
unfolding digits
known_no_piece = refl

pub known_fault_texts : (edit_fault_text fault.TwoBlocks ≡ codes "two blocks list the point")
    × (edit_fault_text fault.SamePiece ≡ codes "both pieces are one")
    × (edit_fault_text fault.OtherBlock ≡ codes "pieces in different blocks")
    × (edit_fault_text (fault.Draw kind.NoJunction) ≡ codes "not a junction")
known_fault_texts = (refl, refl, refl, refl)

-- an order, and arguments that are none
pub known_edit_order : drawing_order_of (codes "edit" ∷ codes "a.rw" ∷ codes "b.rw" ∷ codes "centre" ∷ [])
    ≡ Some (editing (drawing_edit_order (codes "a.rw") (codes "b.rw") (edit.Centre ∷ [])))
unfolding command_order
known_edit_order = refl

-- a line whose last point is at the limit
abbrev wide : DrawingValue
wide = record {
  label = [];
  step = 25;
  threads = 7 ∷ [];
  lines = record { block = 0; points = record { x = pos 29900; y = pos 0 } ∷ record { x = pos 30000; y = pos 0 } ∷ [] } ∷ [];
  starts = [];
  ends = [];
}

-- the second edit is refused, by its number
pub known_second_refused : edits_applied 1
    (edit.Move (motion.Shift (negsuc 0) (pos 0)) ∷ edit.Move (motion.Shift (pos 2) (pos 0)) ∷ []) wide
    ≡ Err (record { number = 2; fault = fault.Draw kind.OutOfRange })
known_second_refused = refl
