-- The two ways to sew a drawing: `route` by walks of the least cost, and `double` by walks that
-- pass each line once in each direction. Costs count steps.
use Rattle.std.specs.Prelude.{◌≡◌, ℕ, List, Ok}
use Rattle.std.specs.List.{AllZip}
use Rattle.odd_cuts.specs.declared.certificate.PieceCert.{PieceCert}
use Rattle.odd_cuts.specs.Certificates.{walks_of}
use Rattle.certificate_text.specs.CertificateTexts.{certificate_text}
use Rattle.certificate_text.specs.ReadCertificates.{cert_of}
use Rattle.format_traits.specs.Meanings.{Meaning}
use Rattle.line_graph.specs.Drawings.{DrawingValue}
use Rattle.line_graph.specs.Pieces.{ArePieces}
use Rattle.route_core.specs.SewnDrawings.{IsPieceSewn}
use Rattle.route_verdict.specs.declared.sewing_ways.Sewing.{Sewing}
use Rattle.route_texts.specs.SewingReports.{sewing_report}
use Rattle.stitch_cli.specs.Sewings.{IsSewnFile, SewnFiles, piece_reports}

-- The result of sewing a drawing that way. Each piece has its walk, and the text of the certificate
-- is read as these certificates.
pub record IsSewnBy (way : Sewing) (format : Meaning) (d : DrawingValue) (files : SewnFiles) : Type
    0 where
  pub pieces : List (List ℕ)
  pub certs : List PieceCert
  pub pieces_are : ArePieces d pieces
  pub each : AllZip (IsPieceSewn way d) pieces certs
  pub sewn : IsSewnFile format d (walks_of certs) files.design_file
  pub cert_is : files.cert_text ≡ certificate_text certs
  pub cert_reads : cert_of files.cert_text ≡ Ok certs
  pub report_is : files.report ≡ sewing_report way (piece_reports d 1 pieces certs)
