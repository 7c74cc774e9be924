-- The sums over the pieces of a sample drawing. Costs count steps, weights of cuts halves of a
-- step.
use Rattle.std.specs.Prelude.{ℕ, ◌*◌, List, length, sum_by}
use Rattle.line_graph.specs.declared.piece.Piece.{Piece}
use Rattle.line_graph.specs.PiecesOfDrawings.{graph_of}
use Rattle.line_graph.specs.PieceGraphs.{PieceValue, odd_junctions}
use Rattle.route_texts.specs.declared.sewing_reports.PieceReport.{PieceReport}
use Rattle.route_texts.specs.declared.summary.Summary.{Summary}
use Rattle.route_texts.specs.SewingReports.{penetrations_of}

-- The number of junctions of a piece.
abbrev pub junctions_of_piece : PieceValue → ℕ
junctions_of_piece p = length p.junctions

-- The number of odd junctions of a piece.
abbrev pub odd_junctions_of_piece : PieceValue → ℕ
odd_junctions_of_piece p = length (odd_junctions p)

-- The total number of junctions of pieces.
abbrev pub total_junctions : List Piece → ℕ
total_junctions pieces = sum_by (λ p. junctions_of_piece (graph_of p)) pieces

-- The total number of odd junctions of pieces.
abbrev pub total_odd_junctions : List Piece → ℕ
total_odd_junctions pieces = sum_by (λ p. odd_junctions_of_piece (graph_of p)) pieces

-- The summary of a sample drawing with that number of lines, computed from its pieces and their
-- reports.
abbrev pub sample_summary : (number lines : ℕ) → List Piece → List PieceReport → Summary
sample_summary number lines pieces reports = record {
  number = number;
  lines = lines;
  junctions = total_junctions pieces;
  odd = total_odd_junctions pieces;
  pieces = length pieces;
  cost = sum_by (λ r. r.cost) reports;
  retraced = sum_by (λ r. r.retraced) reports;
  penetrations = sum_by penetrations_of reports;
  cuts = 2 * sum_by (λ r. r.retraced) reports;
}
