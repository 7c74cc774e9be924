-- Where arrows are. One pass of the thread has one arrow at most in a square of 5 mm, so that satin
-- and fills stay legible (own).
use Rattle.std.specs.Prelude.{ℕ, ℤ, negsuc, ◌==◌, ◌&&◌, ◌-ℤ◌, ◌/◌, unsigned_abs, nat_le, Bool, not, true, if◌then◌else◌}
use Rattle.design_model.specs.declared.point.Point.{Point}
use Rattle.design_picture.specs.declared.arrow_squares.ArrowSquare.{ArrowSquare}
use Rattle.design_picture.specs.declared.arrow_squares.TheConstants.{ARROW_SQUARE}
use Rattle.design_picture.specs.declared.pen.Pen.{Pen}
use Rattle.design_picture.specs.declared.pen.TheConstants.{ARROW_GAP}

-- The number of the column or row of a coordinate. They begin at the least coordinate of a needle.
abbrev pub square_number : ℤ → ℕ
square_number coordinate = unsigned_abs (coordinate -ℤ negsuc 29999) / ARROW_SQUARE

-- The square of a point, for a pass.
abbrev pub square_of_pass : Point → ℕ → ArrowSquare
square_of_pass p pass = record {
  column = square_number p.x;
  row = square_number p.y;
  pass = pass;
}

-- Two squares are one, for the same pass.
abbrev pub is_same_square : ArrowSquare → ArrowSquare → Bool
is_same_square a b = a.column == b.column && (a.row == b.row && a.pass == b.pass)

-- The next stitch may have an arrow: enough thread was sewn since the last one.
abbrev pub is_arrow_due : Pen → Bool
is_arrow_due pen = nat_le ARROW_GAP pen.since

-- A stitch has an arrow where one is due and its square has none yet.
abbrev pub has_arrow : Pen → (ArrowSquare → Bool) → ArrowSquare → Bool
has_arrow pen arrows square = is_arrow_due pen && not (arrows square)

-- The squares with an arrow, after a stitch.
abbrev pub arrows_with : Pen → (ArrowSquare → Bool) → ArrowSquare → ArrowSquare → Bool
arrows_with pen arrows square other =
    if is_arrow_due pen && is_same_square square other then true else arrows other
