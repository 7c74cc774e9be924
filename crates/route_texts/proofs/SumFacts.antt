-- Worked values of the numbers that reports on pieces add up. Costs count steps.
use Rattle.std.proofs.Common.{◌≡◌, ◌+◌, ◌<◌, ◌≤◌, ◌^◌, List, [], ◌∷◌, Some, None, All, length, sum_by, refl}
use Rattle.line_graph.specs.PieceGraphs.{odd_junctions}
use Rattle.line_graph.specs.PiecesOfDrawings.{graph_of}
use Rattle.line_graph.specs.declared.piece.Piece.{Piece}
use Rattle.odd_cuts.specs.declared.certificate.PieceCert.{PieceCert}
use Rattle.route_texts.specs.OddCounts.{odd_number}
use Rattle.route_texts.specs.PieceReports.{AreReportable, piece_report, reports_from}
use Rattle.route_texts.specs.PieceSums.{sample_summary, total_junctions, total_odd_junctions}
use Rattle.route_texts.specs.SewingReports.{penetrations_of}
use Rattle.route_texts.specs.declared.sewing_reports.PieceReport.{PieceReport}

-- of the degrees 1, 2 and 3 two are odd; a line that closes the walk makes its two ends even, by their indexes
pub known_odd : (odd_number None None 0 (1 ∷ 2 ∷ 3 ∷ []) ≡ 2) × (odd_number (Some 0) (Some 2) 0 (1 ∷ 2 ∷ 3 ∷ []) ≡ 0)
    × (odd_number (Some 5) (Some 6) 5 (1 ∷ 1 ∷ 1 ∷ []) ≡ 1) × (odd_number (Some 5) None 5 (1 ∷ 1 ∷ 1 ∷ []) ≡ 3)
known_odd = (refl, refl, refl, refl)

-- pieces are numbered in order, each with its certificate, as far as there are both
pub known_reports : (p q : Piece) (c e : PieceCert) → (reports_from 4 (p ∷ q ∷ []) (c ∷ e ∷ [])
    ≡ piece_report (graph_of p) 4 c ∷ piece_report (graph_of q) 5 e ∷ [])
    × (reports_from 4 (p ∷ q ∷ []) (c ∷ []) ≡ piece_report (graph_of p) 4 c ∷ [])
known_reports p q c e = (refl, refl)

-- blocks are below 255, pieces at most 1,024, and their penetrations fit 32 bits
pub known_reportable : (pieces : List Piece) (certs : List PieceCert) → AreReportable pieces certs
    → All (λ (p : Piece). p.block < 255) pieces × (length pieces ≤ 1024)
    × (sum_by penetrations_of (reports_from 1 pieces certs) < 2 ^ 32)
known_reportable pieces certs are = (are.blocks, are.most, are.few)

-- junctions are those of all pieces
pub known_junctions : (p : Piece) → (total_junctions (p ∷ []) ≡ 0 + length (graph_of p).junctions)
    × (total_odd_junctions (p ∷ []) ≡ 0 + length (odd_junctions (graph_of p)))
known_junctions p = (refl, refl)

-- two pieces, of which each walk makes twelve and five steps, and then four more and none
abbrev reports : List PieceReport
reports = record { block = 1; piece = 1; lines = 3; cost = 12; retraced = 4 }
    ∷ record { block = 2; piece = 2; lines = 1; cost = 5; retraced = 0 } ∷ []

-- the sums of their steps, and twice those that are sewn again for the cuts
pub known_summary : sample_summary 3 7 [] reports
    ≡ record { number = 3; lines = 7; junctions = 0; odd = 0; pieces = 0; cost = 17; retraced = 4; penetrations = 23; cuts = 8 }
known_summary = refl

pub known_summary_pieces : (p q : Piece) → ((sample_summary 3 7 (p ∷ q ∷ []) reports).pieces ≡ 2)
    × ((sample_summary 3 7 (p ∷ q ∷ []) reports).junctions ≡ total_junctions (p ∷ q ∷ []))
    × ((sample_summary 3 7 (p ∷ q ∷ []) reports).odd ≡ total_odd_junctions (p ∷ q ∷ []))
known_summary_pieces p q = (refl, refl, refl)
