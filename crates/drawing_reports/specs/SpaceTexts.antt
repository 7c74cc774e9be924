-- The report of `space`: numbers before and after. Lengths are in tenths of a millimetre, rounded
-- down.
use Rattle.std.specs.Prelude.{ℕ, ◌/◌, List, ◌++◌, codes, decimal}
use Rattle.design_model.specs.TextLines.{newline}
use Rattle.drawing_reports.specs.declared.length_spans.LengthSpan.{LengthSpan}
use Rattle.drawing_reports.specs.LengthSpans.{span_of}
use Rattle.line_graph.specs.Drawings.{DrawingValue}
use Rattle.line_graph.specs.GrowingDrawings.{point_count, step_count}

-- The numbers of points and of stitches.
abbrev pub count_change_text : (points less stitches fewer : ℕ) → List ℕ
count_change_text points less stitches fewer =
    codes "points " ++ (decimal points ++ (codes " to " ++ (decimal less ++ (codes " stitches "
    ++ (decimal stitches ++ (codes " to " ++ (decimal fewer ++ codes " ")))))))

-- The shortest and the longest segments.
abbrev pub span_change_text : (before after : LengthSpan) → List ℕ
span_change_text before after = codes "shortest " ++ (decimal (before.shortest / 100)
    ++ (codes " to " ++ (decimal (after.shortest / 100) ++ (codes " longest "
    ++ (decimal (before.longest / 100) ++ (codes " to " ++ (decimal (after.longest / 100)
    ++ codes " ")))))))

-- The number of pieces.
abbrev pub piece_count_text : ℕ → List ℕ
piece_count_text pieces = codes "pieces " ++ (decimal pieces ++ newline)

-- The report of `space` on a drawing before and after.
abbrev pub space_report : (before after : DrawingValue) → (pieces : ℕ) → List ℕ
space_report before after pieces =
    count_change_text (point_count before.lines) (point_count after.lines)
    (step_count before.step before.lines) (step_count after.step after.lines)
    ++ (span_change_text (span_of before.lines) (span_of after.lines) ++ piece_count_text pieces)
