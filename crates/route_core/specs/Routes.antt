-- The least walk over a piece, with cuts that prove it least. Weights of cuts count halves of a
-- step, costs count steps.
use Rattle.std.specs.Prelude.{◌≡◌, ℕ, ◌+◌, List, length}
use Rattle.odd_cuts.specs.declared.certificate.PieceCert.{PieceCert}
use Rattle.line_graph.specs.Drawings.{DrawingValue}
use Rattle.line_graph.specs.PieceGraphs.{piece_graph}
use Rattle.line_graph.specs.PieceWalks.{walk_cost}
use Rattle.line_graph.specs.Walks.{needles_of_walk}
use Rattle.route_core.specs.PieceCertificates.{CertifiesLeastWalk}

-- A certificate with a least walk over the piece of the given lines. There is one needle point more
-- than the walk costs steps.
pub record IsLeastPieceRoute (d : DrawingValue) (lines : List ℕ) (cert : PieceCert) : Type 0 where
  pub proved : CertifiesLeastWalk (piece_graph d lines) cert
  pub penetrations : length (needles_of_walk d cert.walk)
      ≡ walk_cost (piece_graph d lines) cert.walk + 1
