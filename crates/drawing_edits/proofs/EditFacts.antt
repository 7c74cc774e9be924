-- Worked values of moved drawings.
use Rattle.std.proofs.Common.{◌≡◌, ℤ, pos, negsuc, [], ◌∷◌, Some, Ok, Err, refl}
use Rattle.drawing_edits.proofs.Names.{Point, DrawingValue, centred_drawing, redrawn, middle_of, mirrored_drawing, shifted_drawing, turned_drawing}
use Rattle.design_edits.specs.declared.axis.Axis.TheVariants as axis
use Rattle.design_edits.specs.declared.motion.Motion.TheVariants as motion
use Rattle.line_graph.specs.declared.draw_kind.DrawKind.TheVariants as kind
use Rattle.drawing_edits.specs.declared.drawing_edit.DrawingEdit.TheVariants as edit
use Rattle.drawing_edits.specs.declared.edit_fault.EditFault.TheVariants as fault
use Rattle.drawing_edits.specs.EditedDrawings.{edited_drawing}

-- the point with those numbers
abbrev at : ℤ → ℤ → Point
at x y = record { x = x; y = y }

-- a drawing of one line through three points, with a start and an end
abbrev drawn : (p q r : Point) → DrawingValue
drawn p q r = record {
  label = 65 ∷ [];
  step = 25;
  threads = 7 ∷ [];
  lines = record { block = 0; points = p ∷ q ∷ r ∷ [] } ∷ [];
  starts = record { block = 0; at = p } ∷ [];
  ends = record { block = 0; at = r } ∷ [];
}

abbrev sample : DrawingValue
sample = drawn (at (pos 0) (pos 3)) (at (pos 40) (pos 0)) (at (pos 40) (pos 9))

-- a shift to the left and downwards moves lines, starts and ends
pub known_shifted_drawing : shifted_drawing (negsuc 9) (pos 100) sample
    ≡ drawn (at (negsuc 9) (pos 103)) (at (pos 30) (pos 100)) (at (pos 30) (pos 109))
known_shifted_drawing = refl

-- a quarter turn, clockwise as seen
pub known_turned_drawing : (turned_drawing 1 sample
    ≡ drawn (at (negsuc 2) (pos 0)) (at (pos 0) (pos 40)) (at (negsuc 8) (pos 40)))
    × (mirrored_drawing axis.X sample
    ≡ drawn (at (pos 0) (pos 3)) (at (negsuc 39) (pos 0)) (at (negsuc 39) (pos 9)))
known_turned_drawing = (refl, refl)

-- the middle of an extent: halves are rounded to the left and upwards
pub known_middle : (middle_of (Some (record { min = at (negsuc 6) (pos 2); max = at (pos 2) (pos 5) })) ≡ at (negsuc 2) (pos 3))
    × (centred_drawing sample
    ≡ drawn (at (negsuc 19) (negsuc 0)) (at (pos 20) (negsuc 3)) (at (pos 20) (pos 5)))
known_middle = (refl, refl)

-- what is drawn again as it is
pub known_redrawn : redrawn sample ≡ Ok sample
known_redrawn = refl

-- a shift by one too far
pub known_edited_drawing : (edited_drawing (edit.Move (motion.Shift (pos 29961) (pos 0))) sample ≡ Err (fault.Draw kind.OutOfRange))
    × (edited_drawing (edit.Move (motion.Shift (pos 29960) (pos 0))) sample
    ≡ Ok (shifted_drawing (pos 29960) (pos 0) sample))
    -- another longest step
    × (edited_drawing (edit.Step 1) sample ≡ Ok (record sample { step = 1 }))
known_edited_drawing = (refl, refl, refl)
