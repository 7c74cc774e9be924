-- How a thread is drawn: a stitch is a straight line, and an arc beside it where it was sewn
-- before.
use Rattle.std.specs.Prelude.{ℕ, ◌+◌, ◌/◌, ◌==◌, ◌-ℤ◌, unsigned_abs, max, nat_le, Bool, List, [], ◌∷◌, ◌++◌, codes, if◌then◌else◌}
use Rattle.std.specs.Fmt.{decimal}
use Rattle.design_model.specs.declared.point.Point.{Point}
use Rattle.design_picture.specs.declared.strokes.PieceStart.{PieceStart}
use Rattle.design_picture.specs.declared.strokes.SewnStitch.{SewnStitch}
use Rattle.design_picture.specs.declared.strokes.Stroke.{Stroke}
use Rattle.design_picture.specs.declared.strokes.Stroke.TheVariants.{Begin, Float, Sewn, Trim, Stop}
use Rattle.design_picture.specs.declared.threads.TheConstants.{MIN_SHOWN}
use Rattle.picture_parts.specs.AgainColours.{again_colour_of}
use Rattle.picture_parts.specs.Colours.{colour_of_thread}
use Rattle.design_model.specs.Lengths.{square_of}
use Rattle.picture_parts.specs.Parts.{around, ended, filled, point_text}
use Rattle.picture_parts.specs.Paths.{coloured_path, move_text, path_end, straight_text}

-- A stitch to a point as an arc of a radius.
unfoldable pub arc_text : ℕ → Point → List ℕ
arc_text bow p = filled (codes "A@,@,0,0,1,@")
    (decimal bow ∷ decimal bow ∷ point_text p ∷ [])

-- The radius of the arc of a stitch that was sewn once, twice or more often before, so that the arc
-- is some 4, 8 or 12 tenths of a millimetre beside the straight line.
abbrev pub bow_of : SewnStitch → ℕ
bow_of stitch = if stitch.pass == 1 then square_of stitch.from stitch.at / 32 + 2
    else (if stitch.pass == 2 then square_of stitch.from stitch.at / 64 + 4
    else square_of stitch.from stitch.at / 96 + 6)

-- A stitch that was sewn a number of times before.
abbrev pub sewn_text : SewnStitch → List ℕ
sewn_text stitch =
    if stitch.pass == 0 then straight_text stitch.at else arc_text (bow_of stitch) stitch.at

-- The thread of the next block.
abbrev pub colour_change_text : ℕ → List ℕ
colour_change_text thread = path_end ++ coloured_path (codes "thread") (colour_of_thread thread)

-- The thread of a stroke.
abbrev pub thread_text : Stroke → List ℕ
thread_text (Begin start) = move_text start.at
thread_text (Float from p) = move_text p
thread_text (Sewn stitch) = sewn_text stitch
thread_text (Trim p) = []
thread_text (Stop ended next) = colour_change_text next

-- A stitch that was sewn before, alone.
abbrev pub second_shape : SewnStitch → List ℕ
second_shape stitch =
    if stitch.pass == 0 then [] else move_text stitch.from ++ arc_text (bow_of stitch) stitch.at

-- What is sewn again of the next block.
abbrev pub again_change_text : ℕ → List ℕ
again_change_text thread = path_end ++ coloured_path (codes "again") (again_colour_of thread)

-- The stitch of a stroke, if it was sewn before; at a stop the colour changes.
abbrev pub second_text : Stroke → List ℕ
second_text (Begin start) = []
second_text (Float from p) = []
second_text (Sewn stitch) = second_shape stitch
second_text (Trim p) = []
second_text (Stop ended next) = again_change_text next

-- A stitch is long enough for its needle holes to be distinguished.
abbrev pub is_long : Point → Point → Bool
is_long p q = nat_le MIN_SHOWN (max (unsigned_abs (q.x -ℤ p.x)) (unsigned_abs (q.y -ℤ p.y)))

-- A needle hole.
unfoldable pub hole_shape : Point → List ℕ
hole_shape p = around (codes "M") p (codes "h0")

-- The needle hole at the end of a stitch that is long enough.
abbrev pub long_hole_text : SewnStitch → List ℕ
long_hole_text stitch = if is_long stitch.from stitch.at then hole_shape stitch.at else []

-- The needle hole of a stroke.
abbrev pub hole_text : Stroke → List ℕ
hole_text (Begin start) = hole_shape start.at
hole_text (Float from p) = hole_shape p
hole_text (Sewn stitch) = long_hole_text stitch
hole_text (Trim p) = []
hole_text (Stop ended next) = []

-- The beginning of an arrow's stitch.
unfoldable pub arrow_shape : Point → List ℕ
arrow_shape p = around (codes "<path class='arrow' d='M") p []

-- The arrow at the end of a stitch that has one.
abbrev pub arrow_if : SewnStitch → List ℕ
arrow_if stitch =
    if stitch.arrow then arrow_shape stitch.from ++ (sewn_text stitch ++ path_end) else []

-- The arrow of a stroke.
abbrev pub arrow_text : Stroke → List ℕ
arrow_text (Begin start) = []
arrow_text (Float from p) = []
arrow_text (Sewn stitch) = arrow_if stitch
arrow_text (Trim p) = []
arrow_text (Stop ended next) = []

-- The way from one needle to another without a stitch.
unfoldable pub travel_shape : Point → Point → List ℕ
travel_shape p q = filled (ended (codes "<path class='travel' d='M@L@'/>"))
    (point_text p ∷ point_text q ∷ [])

-- The way to a piece; none leads to the first.
abbrev pub way_text : PieceStart → List ℕ
way_text start = if start.piece == 1 then [] else travel_shape start.from start.at

-- The way of a loose thread to a piece, or a float.
abbrev pub travel_text : Stroke → List ℕ
travel_text (Begin start) = way_text start
travel_text (Float from p) = travel_shape from p
travel_text (Sewn stitch) = []
travel_text (Trim p) = []
travel_text (Stop ended next) = []
