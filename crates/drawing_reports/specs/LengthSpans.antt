-- The shortest and the longest segment of lines. Lengths are straight, in thousandths of a
-- millimetre.
use Rattle.std.specs.Prelude.{ℕ, max, min, List, [], ◌∷◌}
use Rattle.design_model.specs.Lengths.{length_of}
use Rattle.design_model.specs.declared.point.Point.{Point}
use Rattle.line_sections.specs.Lines.{LineValue}
use Rattle.drawing_reports.specs.declared.length_spans.LengthSpan.{LengthSpan}
use Rattle.drawing_reports.specs.declared.length_spans.TheConstants.{NO_LENGTH}

-- The span of no length.
abbrev pub no_span : LengthSpan
no_span = record { shortest = NO_LENGTH; longest = 0 }

-- A span with one more length.
abbrev pub span_with : LengthSpan → ℕ → LengthSpan
span_with span n = record { shortest = min span.shortest n; longest = max span.longest n }

-- A span with the lengths of the segments from the point p on.
abbrev pub span_after : LengthSpan → (p : Point) → List Point → LengthSpan
span_after span p [] = span
span_after span p (q ∷ rest) = span_after (span_with span (length_of p q)) q rest

-- A span with the lengths of the segments of a line.
abbrev pub span_in : LengthSpan → List Point → LengthSpan
span_in span [] = span
span_in span (p ∷ rest) = span_after span p rest

-- A span with the lengths of the segments of lines.
abbrev pub span_along : LengthSpan → List LineValue → LengthSpan
span_along span [] = span
span_along span (line ∷ rest) = span_along (span_in span line.points) rest

-- The shortest and the longest segment of lines.
abbrev pub span_of : List LineValue → LengthSpan
span_of lines = span_along no_span lines
