-- A near drawing as all its parts: without one of them these facts fail. Travel is in thousandths of a millimetre.
use Rattle.std.proofs.Common.{◌≡◌, ℕ, ◌≤◌, List, None, length}
use Rattle.line_graph.specs.PiecesOfDrawings.{ArePiecesOf}
use Rattle.near_pieces.proofs.Names.{AreNearLines, AreNearOrders, DrawingValue, IsFoundFrom, IsNear, LineValue, NearDrawing, Piece, Spot}
use Rattle.near_pieces.specs.NearDrawings.{HasTravel, drawn_with, travel_of_pieces}
use Rattle.near_pieces.specs.NearLines.{lines_in, starts_in}
use Rattle.near_pieces.specs.PieceRuns.{block_runs}

-- the travel of a drawing is that of its pieces
pub whole_travel : (d : DrawingValue) (travel : ℕ) → HasTravel d travel
    → (pieces : List Piece) × ArePiecesOf d pieces × (travel ≡ travel_of_pieces d pieces)
whole_travel d travel has = (has.pieces, has.pieces_are, has.travel_is)

-- what is found is of the pieces of the drawing, with its travel before and after, which is no more
pub whole_near : (d : DrawingValue) (found : NearDrawing) → IsNear d found
    → (pieces : List Piece) × (lines : List LineValue) × (starts : List Spot) × ArePiecesOf d pieces
    × (found.pieces ≡ length pieces) × (found.before ≡ travel_of_pieces d pieces) × HasTravel found.drawing found.after
    × (found.after ≤ found.before) × AreNearLines d.lines None pieces lines starts
    × IsFoundFrom d lines (drawn_with d lines starts) found
whole_near d found is = (
  is.pieces,
  is.lines,
  is.starts,
  is.pieces_are,
  is.counted,
  is.before_is,
  is.after_is,
  is.no_more,
  is.near,
  is.drawn,
)

-- the near lines and starts are those of orders with little travel of the runs
pub whole_near_lines : (lines new : List LineValue) (pieces : List Piece) (starts : List Spot) → AreNearLines lines None pieces new starts
    → (orders : List (List ℕ)) × AreNearOrders None (block_runs pieces) orders × (new ≡ lines_in lines (block_runs pieces) orders)
    × (starts ≡ starts_in None (block_runs pieces) orders)
whole_near_lines lines new pieces starts are = (are.orders, are.near, are.lines_are, are.starts_are)
