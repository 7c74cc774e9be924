-- Worked values of moves that draw exactly the moved drawing.
use Rattle.std.proofs.Common.{◌≡◌, ℤ, pos, negsuc, List, [], ◌∷◌, Ok, refl}
use Rattle.edit_laws.proofs.Names.{Point, DrawingValue, Spot, LineValue}
use Rattle.design_edits.specs.declared.motion.Motion.TheVariants as motion
use Rattle.drawing_edits.specs.declared.drawing_edit.DrawingEdit.TheVariants as edit
use Rattle.drawing_edits.specs.EditedDrawings.{edited_drawing}

-- the point with those numbers
abbrev at : ℤ → ℤ → Point
at x y = record { x = x; y = y }

-- one block with the lines through the given points and the given starts
abbrev of_lines : List LineValue → List Spot → DrawingValue
of_lines lines starts = record { label = []; step = 25; threads = 7 ∷ []; lines = lines; starts = starts; ends = [] }

abbrev through : List Point → LineValue
through points = record { block = 0; points = points }

-- two lines that meet at an end, with a start
abbrev corner : DrawingValue
corner = of_lines (through (at (pos 0) (pos 0) ∷ at (pos 40) (pos 0) ∷ []) ∷ through (at (pos 40) (pos 0) ∷ at (pos 40) (pos 30) ∷ []) ∷ [])
    (record { block = 0; at = at (pos 0) (pos 0) } ∷ [])

-- the shifted drawing has its start where the shifted line has its end
pub known_shifted_corner : edited_drawing (edit.Move (motion.Shift (negsuc 9) (pos 5))) corner
    ≡ Ok (of_lines
    (through (at (negsuc 9) (pos 5) ∷ at (pos 30) (pos 5) ∷ []) ∷ through (at (pos 30) (pos 5) ∷ at (pos 30) (pos 35) ∷ []) ∷ [])
    (record { block = 0; at = at (negsuc 9) (pos 5) } ∷ []))
known_shifted_corner = refl

-- two lines of which one ends inside the other, which isn't joined there
abbrev crossing : DrawingValue
crossing = of_lines (through (at (pos 0) (pos 0) ∷ at (pos 20) (pos 0) ∷ at (pos 40) (pos 0) ∷ [])
    ∷ through (at (pos 20) (pos 0) ∷ at (pos 20) (pos 30) ∷ []) ∷ []) []

-- a move of a drawing that isn't joined cuts the line there
pub known_move_joins : edited_drawing (edit.Move (motion.Shift (pos 0) (pos 0))) crossing
    ≡ Ok (of_lines (through (at (pos 0) (pos 0) ∷ at (pos 20) (pos 0) ∷ []) ∷ through (at (pos 20) (pos 0) ∷ at (pos 40) (pos 0) ∷ [])
    ∷ through (at (pos 20) (pos 0) ∷ at (pos 20) (pos 30) ∷ []) ∷ []) [])
known_move_joins = refl
