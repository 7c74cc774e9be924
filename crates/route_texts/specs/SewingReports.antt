-- The reports of `route` and `double`: a line for each piece, and the totals. Costs count steps.
use Rattle.std.specs.Prelude.{ℕ, ◌+◌, List, [], ◌∷◌, ◌++◌, codes, decimal, sum_by, length}
use Rattle.design_model.specs.TextLines.{newline}
use Rattle.route_texts.specs.declared.sewing_reports.PieceReport.{PieceReport}
use Rattle.route_verdict.specs.declared.sewing_ways.Sewing.{Sewing}
use Rattle.route_verdict.specs.declared.sewing_ways.Sewing.TheVariants as sewing

-- The number of penetrations in a piece.
abbrev pub penetrations_of : PieceReport → ℕ
penetrations_of piece = piece.cost + piece.retraced + 1

-- The numbers of a block and a piece, and the number of lines of the piece.
abbrev pub piece_position_text : PieceReport → List ℕ
piece_position_text piece = codes "block " ++ (decimal piece.block ++ (codes " piece "
    ++ (decimal piece.piece ++ (codes " lines " ++ decimal piece.lines))))

-- The cost of a piece, the retraced cost, and the number of penetrations.
abbrev pub route_cost_text : PieceReport → List ℕ
route_cost_text piece = codes " cost " ++ (decimal piece.cost ++ (codes " retraced "
    ++ (decimal piece.retraced ++ (codes " penetrations "
    ++ (decimal (penetrations_of piece) ++ newline)))))

-- The cost of a piece, and its number of penetrations. A double walk retraces the cost of the lines
-- of its piece.
abbrev pub double_cost_text : PieceReport → List ℕ
double_cost_text piece = codes " cost " ++ (decimal piece.cost
    ++ (codes " penetrations " ++ (decimal (penetrations_of piece) ++ newline)))

-- The costs of a piece, as each way to sew reports them.
abbrev pub cost_text : Sewing → PieceReport → List ℕ
cost_text sewing.Route piece = route_cost_text piece
cost_text sewing.Double piece = double_cost_text piece

-- The line of a piece.
abbrev pub piece_line : Sewing → PieceReport → List ℕ
piece_line way piece = piece_position_text piece ++ cost_text way piece

-- The lines of pieces.
abbrev pub piece_lines : Sewing → List PieceReport → List ℕ
piece_lines way [] = []
piece_lines way (piece ∷ rest) = piece_line way piece ++ piece_lines way rest

-- The line of the totals.
abbrev pub totals_text : ℕ → ℕ → List ℕ
totals_text pieces penetrations = codes "pieces " ++ (decimal pieces
    ++ (codes " penetrations " ++ (decimal penetrations ++ newline)))

-- The report: a line for each piece, and the totals.
abbrev pub sewing_report : Sewing → List PieceReport → List ℕ
sewing_report way pieces = piece_lines way pieces ++ totals_text (length pieces)
    (sum_by penetrations_of pieces)
