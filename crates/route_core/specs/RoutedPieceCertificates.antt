-- The certificates of the pieces of a drawing. Used only inside this crate.
use Rattle.odd_cuts.specs.declared.certificate.PieceCert.{PieceCert}
use Rattle.odd_cuts.specs.Certificates.{HasCanonicalText}
use Rattle.line_graph.specs.declared.piece.Piece.{Piece}
use Rattle.line_graph.specs.PiecesOfDrawings.{graph_of}
use Rattle.route_core.specs.PieceCertificates.{CertifiesLeastWalk}

-- A certificate with a least walk over a piece, which can be printed.
pub record IsRoutedPiece (p : Piece) (cert : PieceCert) : Type 0 where
  pub proved : CertifiesLeastWalk (graph_of p) cert
  pub canonical : HasCanonicalText cert
