-- The command `sample`: a generated drawing, and a summary of a route of it. Costs count steps,
-- weights of cuts halves of a step.
use Rattle.std.specs.Prelude.{◌≡◌, ℕ, ◌+◌, List, length, sum_by}
use Rattle.std.specs.List.{AllZip}
use Rattle.odd_cuts.specs.declared.certificate.PieceCert.{PieceCert}
use Rattle.odd_cuts.specs.Cuts.{total_weight}
use Rattle.drawing_text.specs.CanonicalTexts.{canonical_text}
use Rattle.line_graph.specs.Drawings.{DrawingValue}
use Rattle.line_graph.specs.PieceGraphs.{PieceValue, piece_graph}
use Rattle.line_graph.specs.Pieces.{ArePieces}
use Rattle.line_graph.specs.PieceWalks.{piece_cost}
use Rattle.route_core.specs.Routes.{IsLeastPieceRoute}
use Rattle.sample_drawings.specs.Samples.{sample_drawing_of}
use Rattle.route_texts.specs.declared.summary.Summary.{Summary}
use Rattle.program_shell.specs.Plans.{Plan, accepts}
use Rattle.program_shell.specs.Products.{ProductValue, one_file_product}
use Rattle.route_texts.specs.PieceSums.{junctions_of_piece, odd_junctions_of_piece}
use Rattle.route_texts.specs.Summaries.{summary_text}

-- The order of `sample`: the number of the sample drawing, and the file to write it to.
pub record SampleOrder : Type 0 where
  pub number : ℕ
  pub drawing : List ℕ

-- The order of `sample`, from the number and the name of its file.
abbrev pub sample_order : ℕ → List ℕ → SampleOrder
sample_order number drawing = record { number = number; drawing = drawing }

-- The sum of a number over pieces of a drawing.
abbrev pub sum_over_pieces : (PieceValue → ℕ) → DrawingValue → List (List ℕ) → ℕ
sum_over_pieces count d pieces = sum_by (λ lines. count (piece_graph d lines)) pieces

-- The total cost that the walks retrace.
abbrev pub retraced_sum : List PieceCert → ℕ
retraced_sum certs = sum_by (λ cert. cert.retraced) certs

-- The total weight of all cuts.
abbrev pub cut_sum : List PieceCert → ℕ
cut_sum certs = sum_by (λ cert. total_weight cert.cuts) certs

-- The summary of a drawing and a route over its pieces. The needle penetrates once more per walk
-- than the walk costs.
abbrev pub summary_of : ℕ → DrawingValue → List (List ℕ) → List PieceCert → Summary
summary_of number d pieces certs = record {
  number = number;
  lines = length d.lines;
  junctions = sum_over_pieces junctions_of_piece d pieces;
  odd = sum_over_pieces odd_junctions_of_piece d pieces;
  pieces = length pieces;
  cost = sum_over_pieces piece_cost d pieces;
  retraced = retraced_sum certs;
  penetrations = (sum_over_pieces piece_cost d pieces + retraced_sum certs) + length pieces;
  cuts = cut_sum certs;
}

-- The product of `sample`: the drawing is written as its canonical text, and the report is the
-- summary of best walks.
pub record IsSampleProduct (order : SampleOrder) (d : DrawingValue) (product : ProductValue) : Type
    0 where
  pub pieces : List (List ℕ)
  pub certs : List PieceCert
  pub pieces_are : ArePieces d pieces
  pub best : AllZip (IsLeastPieceRoute d) pieces certs
  pub made : product ≡ one_file_product order.drawing (canonical_text d)
      (summary_text (summary_of order.number d pieces certs))

-- The plan of `sample`: every number is accepted.
abbrev pub sample_plan : SampleOrder → Plan
sample_plan order = accepts (IsSampleProduct order (sample_drawing_of order.number))
