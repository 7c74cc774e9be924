-- What a verdict of yes means, and when it is given.
use Rattle.std.specs.Prelude.{◌↔◌, ℕ, List}
use Rattle.odd_cuts.specs.declared.certificate.PieceCert.{PieceCert}
use Rattle.design_model.specs.Designs.{DesignValue}
use Rattle.line_graph.specs.Drawings.{DrawingValue, KeepsDrawingLimits}
use Rattle.line_graph.specs.Pieces.{ArePieces}
use Rattle.route_verdict.specs.declared.verdict.Verdict.TheVariants as verdict
use Rattle.route_verdict.specs.LeastRedwork.{IsLeastRedwork}
use Rattle.route_verdict.specs.Verdicts.{IsCorrectRoute, IsVerdict}

-- A correct route over the pieces of a drawing is judged yes.
abbrev pub CorrectRoutesAreAccepted : Type 0
CorrectRoutesAreAccepted = (d : DrawingValue) (pieces : List (List ℕ)) (design : DesignValue)
    (certs : List PieceCert)
    → KeepsDrawingLimits d → ArePieces d pieces → IsCorrectRoute d pieces design certs
    → IsVerdict d design certs verdict.Yes

-- A design and certificates are judged yes exactly where they are least redwork.
abbrev pub YesIsLeastRedwork : Type 0
YesIsLeastRedwork = (d : DrawingValue) (design : DesignValue) (certs : List PieceCert)
    → KeepsDrawingLimits d
    → IsVerdict d design certs verdict.Yes ↔ IsLeastRedwork d design certs
