-- Worked values of the report on a traced drawing.
use Rattle.std.proofs.Common.{◌≡◌, ℤ, pos, [], ◌∷◌, ◌++◌, refl}
use Rattle.std.specs.Fmt.{digits}
use Rattle.std.specs.Prelude.{codes}
use Rattle.design_model.specs.declared.point.Point.{Point}
use Rattle.line_graph.specs.Drawings.{DrawingValue}
use Rattle.design_model.specs.TextLines.{newline}
use Rattle.program_texts.specs.TracingReports.{traced_line, tracing_report}

pub known_line : traced_line 2 30 405 ≡ codes "blocks 2 lines 30 links 405" ++ newline
unfolding digits
known_line = refl

abbrev at : ℤ → Point
at x = record { x = x; y = pos 0 }

-- a line of three segments in the first block, and two of one segment in the second
abbrev traced : DrawingValue
traced = record {
  label = [];
  step = 10;
  threads = 1 ∷ 2 ∷ [];
  lines = record { block = 0; points = at (pos 0) ∷ at (pos 10) ∷ at (pos 20) ∷ at (pos 30) ∷ [] }
      ∷ record { block = 1; points = at (pos 0) ∷ at (pos 10) ∷ [] }
      ∷ record { block = 1; points = at (pos 10) ∷ at (pos 50) ∷ [] } ∷ [];
  starts = [];
  ends = [];
}

pub known_report : tracing_report traced ≡ codes "blocks 2 lines 3 links 5" ++ newline
unfolding digits
known_report = refl
