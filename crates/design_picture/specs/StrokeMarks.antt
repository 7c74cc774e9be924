-- The marks of strokes: where pieces and blocks begin and end, trims and stops. The number of a
-- piece is above its first needle.
use Rattle.std.specs.Prelude.{ℕ, List, [], ◌∷◌, ◌++◌, codes, if◌then◌else◌}
use Rattle.std.specs.Fmt.{decimal}
use Rattle.design_picture.specs.declared.strokes.PieceStart.{PieceStart}
use Rattle.design_picture.specs.declared.strokes.Stroke.{Stroke}
use Rattle.design_picture.specs.declared.strokes.Stroke.TheVariants.{Begin, Float, Sewn, Trim, Stop}
use Rattle.picture_parts.specs.declared.marks.Mark.TheVariants as mark
use Rattle.picture_parts.specs.Marks.{mark_text}
use Rattle.picture_parts.specs.Parts.{ended, filled, point_text}

-- The number of a piece at its first needle.
unfoldable pub piece_number : PieceStart → List ℕ
piece_number start =
    filled (codes "<text x='-4' y='-10' text-anchor='end' transform='translate(@)'>@"
    ++ ended (codes "</text>")) (point_text start.at ∷ decimal start.piece ∷ [])

-- The triangle where a piece opens its block.
abbrev pub opening_text : PieceStart → List ℕ
opening_text start = if start.opens then mark_text mark.Start start.at else []

-- The marks of a piece's first needle.
abbrev pub begin_text : PieceStart → List ℕ
begin_text start = opening_text start ++ piece_number start

-- The marks of a stroke.
abbrev pub stroke_marks : Stroke → List ℕ
stroke_marks (Begin start) = begin_text start
stroke_marks (Float from p) = []
stroke_marks (Sewn stitch) = []
stroke_marks (Trim p) = mark_text mark.Trim p
stroke_marks (Stop ended next) = mark_text mark.End ended.at ++ mark_text mark.Stop ended.at
