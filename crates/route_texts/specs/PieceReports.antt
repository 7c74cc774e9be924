-- The data of the lines about pieces, each with its certificate. Costs count steps.
use Rattle.std.specs.Prelude.{ℕ, ◌+◌, ◌<◌, ◌≤◌, ◌^◌, All, List, [], ◌∷◌, length, sum_by}
use Rattle.line_graph.specs.declared.limits.TheConstants.{MAX_BLOCKS, MAX_LINES}
use Rattle.odd_cuts.specs.declared.certificate.PieceCert.{PieceCert}
use Rattle.line_graph.specs.PieceGraphs.{PieceValue}
use Rattle.line_graph.specs.PieceWalks.{piece_cost}
use Rattle.route_texts.specs.declared.sewing_reports.PieceReport.{PieceReport}
use Rattle.route_texts.specs.SewingReports.{penetrations_of}
use Rattle.line_graph.specs.declared.piece.Piece.{Piece}
use Rattle.line_graph.specs.PiecesOfDrawings.{graph_of}

-- The data of the line about a piece with that number.
abbrev pub piece_report : PieceValue → ℕ → PieceCert → PieceReport
piece_report p number cert = record {
  block = p.block + 1;
  piece = number;
  lines = length p.lines;
  cost = piece_cost p;
  retraced = cert.retraced;
}

-- The data of the lines about pieces, numbered from `number` on.
abbrev pub reports_from : ℕ → List Piece → List PieceCert → List PieceReport
reports_from number [] certs = []
reports_from number (p ∷ pieces) [] = []
reports_from number (p ∷ pieces) (cert ∷ certs) =
    piece_report (graph_of p) number cert ∷ reports_from (number + 1) pieces certs

-- Pieces and their certificates that reports can count: their blocks and number are within the
-- limits of drawings, and their penetrations fit 32 bits.
pub record AreReportable (pieces : List Piece) (certs : List PieceCert) : Type 0 where
  pub blocks : All (λ p. p.block < MAX_BLOCKS) pieces
  pub most : length pieces ≤ MAX_LINES
  pub few : sum_by penetrations_of (reports_from 1 pieces certs) < 2 ^ 32
