-- What a shift keeps. Coordinates are whole tenths of a millimetre.
use Rattle.std.specs.Prelude.{◌≡◌, ℕ, ℤ, List, map}
use Rattle.design_edits.specs.Moves.{shift_point, shifted}
use Rattle.design_model.specs.declared.point.Point.{Point}
use Rattle.design_model.specs.Designs.{DesignValue}
use Rattle.drawing_edits.specs.MovedDrawings.{shifted_drawing}
use Rattle.line_graph.specs.Drawings.{DrawingValue, KeepsDrawingLimits}
use Rattle.line_graph.specs.Needles.{needle_points}
use Rattle.odd_cuts.specs.declared.certificate.PieceCert.{PieceCert}
use Rattle.route_verdict.specs.declared.verdict.Verdict.TheVariants as verdict
use Rattle.route_verdict.specs.LeastRedwork.{IsLeastRedwork}
use Rattle.route_verdict.specs.Verdicts.{IsVerdict}

-- The needle points of a shifted line are the shifted needle points of the line.
abbrev pub ShiftMovesNeedles : Type 0
ShiftMovesNeedles = (dx dy : ℤ) (step : ℕ) (points : List Point)
    → needle_points step (map (shift_point dx dy) points)
    ≡ map (shift_point dx dy) (needle_points step points)

-- Certificates that show a design to be least redwork for a drawing show it of the shifted design
-- and the shifted drawing.
abbrev pub ShiftKeepsLeastRedwork : Type 0
ShiftKeepsLeastRedwork = (dx dy : ℤ) (d : DrawingValue) (design : DesignValue)
    (certs : List PieceCert)
    → IsLeastRedwork d design certs
    → IsLeastRedwork (shifted_drawing dx dy d) (shifted dx dy design) certs

-- Where a drawing, a design and certificates are judged yes, so are the shifted drawing, the
-- shifted design and the same certificates.
abbrev pub ShiftKeepsYes : Type 0
ShiftKeepsYes = (dx dy : ℤ) (d : DrawingValue) (design : DesignValue) (certs : List PieceCert)
    → KeepsDrawingLimits d → KeepsDrawingLimits (shifted_drawing dx dy d)
    → IsVerdict d design certs verdict.Yes
    → IsVerdict (shifted_drawing dx dy d) (shifted dx dy design) certs verdict.Yes
