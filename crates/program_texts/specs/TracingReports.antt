-- The report of a tracing.
use Rattle.std.specs.Prelude.{ℕ, List, ◌++◌, codes, decimal, length, sum_by}
use Rattle.line_sections.specs.Sections.{segments_of}
use Rattle.line_graph.specs.Drawings.{DrawingValue}
use Rattle.design_model.specs.TextLines.{newline}

-- The line of a tracing: the number of blocks, of lines and of links.
abbrev pub traced_line : (blocks lines links : ℕ) → List ℕ
traced_line blocks lines links = codes "blocks " ++ (decimal blocks ++ (codes " lines "
    ++ (decimal lines ++ (codes " links " ++ (decimal links ++ newline)))))

-- The number of segments of the lines of a drawing.
abbrev pub segment_count : DrawingValue → ℕ
segment_count d = sum_by (λ line. length (segments_of line.points)) d.lines

-- The report of the tracing that resulted in a drawing: its blocks, its lines, and a link for each
-- segment.
abbrev pub tracing_report : DrawingValue → List ℕ
tracing_report d = traced_line (length d.threads) (length d.lines) (segment_count d)
