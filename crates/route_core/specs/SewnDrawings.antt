-- Drawings sewn in one of the two ways: by walks of the least cost, or by walks that pass each line
-- once in each direction.
use Rattle.std.specs.Prelude.{◌≡◌, ℕ, List, All}
use Rattle.std.specs.List.{AllZip}
use Rattle.odd_cuts.specs.declared.certificate.PieceCert.{PieceCert}
use Rattle.odd_cuts.specs.Certificates.{HasCanonicalText, walks_of}
use Rattle.line_graph.specs.declared.piece.Piece.{Piece}
use Rattle.line_graph.specs.PiecesOfDrawings.{graph_of}
use Rattle.line_graph.specs.Drawings.{DrawingValue}
use Rattle.line_graph.specs.Pieces.{ArePieces}
use Rattle.line_graph.specs.Runs.{AreWritable, runs_of, sewn_design}
use Rattle.route_core.specs.declared.routed.Routed.{Routed}
use Rattle.route_verdict.specs.declared.sewing_ways.Sewing.{Sewing}
use Rattle.route_verdict.specs.declared.sewing_ways.Sewing.TheVariants as ways
use Rattle.route_core.specs.Doubles.{IsDoubleCert, IsDoubled}
use Rattle.route_core.specs.RoutedPieceCertificates.{IsRoutedPiece}
use Rattle.route_core.specs.Routes.{IsLeastPieceRoute}

-- A certificate over a piece, made that way. Used only inside this crate.
abbrev pub IsCertOf : Sewing → Piece → PieceCert → Type 0
IsCertOf ways.Route p cert = IsRoutedPiece p cert
IsCertOf ways.Double p cert = IsDoubleCert (graph_of p) cert

-- Certificates made that way, one for each piece in order. Used only inside this crate.
abbrev pub AreCertsOf : Sewing → List Piece → List PieceCert → Type 0
AreCertsOf way pieces certs = AllZip (IsCertOf way) pieces certs

-- A certificate with a walk over the piece of the given lines, that way: a best walk, which is one
-- of the least cost with cuts that prove it, or a double walk, without cuts.
abbrev pub IsPieceSewn : Sewing → DrawingValue → List ℕ → PieceCert → Type 0
IsPieceSewn ways.Route d lines cert = IsLeastPieceRoute d lines cert
IsPieceSewn ways.Double d lines cert = IsDoubled d lines cert

-- The walks over the pieces of a drawing, that way, and the design that sews them. A format can
-- write the design if its limit is at least the drawing's step.
pub record IsSewnOver (way : Sewing) (d : DrawingValue) (pieces : List (List ℕ)) (routed : Routed)
    : Type 0 where
  pub pieces_are : ArePieces d pieces
  pub each : AllZip (IsPieceSewn way d) pieces routed.cert.pieces
  pub canonical : All HasCanonicalText routed.cert.pieces
  pub writable : AreWritable d.step (runs_of d (walks_of routed.cert.pieces))
  pub design : routed.design ≡ sewn_design d (walks_of routed.cert.pieces)

-- The route of a drawing: a least walk over each piece, with cuts that prove it least, and the
-- design that sews these walks.
pub record IsRoute (d : DrawingValue) (routed : Routed) : Type 0 where
  pub pieces : List (List ℕ)
  pub is : IsSewnOver ways.Route d pieces routed
