-- Steps by which the lines and the starts of pieces are put together. No public clause cites this
-- file.
use Rattle.std.specs.Prelude.{◌≡◌, ℕ, List, ◌++◌, Option, Some, map}
use Rattle.line_graph.specs.declared.piece.Piece.{Piece}
use Rattle.line_sections.specs.Lines.{LineValue}
use Rattle.near_pieces.specs.VisitOrders.{IsNearOrder}
use Rattle.near_pieces.specs.declared.near_lines.NearLines.{NearLines}
use Rattle.near_pieces.specs.NearLines.{lines_in_run, lines_of, needle_after_run, starts_in_run}
use Rattle.near_pieces.specs.PiecePlaces.{needle_after, place_of, starts_of}

-- The lines and the starts with those of one more piece, if there is one.
abbrev pub if_put : List LineValue → Option Piece → NearLines → NearLines
if_put lines p near = record {
  lines = near.lines ++ lines_of lines p;
  starts = near.starts ++ starts_of near.from p;
  from = needle_after near.from p;
}

-- The lines and the starts with those of one more piece.
abbrev pub piece_put : List LineValue → Piece → NearLines → NearLines
piece_put lines p near = if_put lines (Some p) near

-- The lines and the starts with those of the pieces of a run in an order.
abbrev pub run_put : List LineValue → List Piece → List ℕ → NearLines → NearLines
run_put lines run order near = record {
  lines = near.lines ++ lines_in_run lines run order;
  starts = near.starts ++ starts_in_run near.from run order;
  from = needle_after_run near.from run order;
}

-- The pieces of a run are put in some order with little travel.
pub record IsRunPut (lines : List LineValue) (run : List Piece) (near new : NearLines)
    : Type 0 where
  pub order : List ℕ
  pub ordered : IsNearOrder (map place_of run) near.from order
  pub put : new ≡ run_put lines run order near
