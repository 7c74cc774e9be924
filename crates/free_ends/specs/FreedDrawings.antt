-- Freed drawings: pieces without start and end have the best ones.
use Rattle.std.specs.Prelude.{◌≡◌, true, false, List, Result, Ok}
use Rattle.std.specs.List.{AllZip}
use Rattle.drawing_edits.specs.RedrawnDrawings.{drawn_lines, with_starts_and_ends}
use Rattle.free_ends.specs.declared.freed_drawing.FreedDrawing.{FreedDrawing}
use Rattle.free_ends.specs.declared.joined_lines.JoinedLines.{JoinedLines}
use Rattle.free_ends.specs.declared.piece_ends.PieceEnds.{PieceEnds}
use Rattle.free_ends.specs.BestWalkEnds.{piece_with_ends}
use Rattle.free_ends.specs.PieceEnds.{AreFound, ends_found, with_best_ends}
use Rattle.line_graph.specs.declared.draw_kind.DrawKind.{DrawKind}
use Rattle.line_graph.specs.declared.piece.Piece.{Piece}
use Rattle.line_graph.specs.Drawings.{DrawingValue}
use Rattle.line_graph.specs.GrowingDrawings.{and_then}
use Rattle.line_graph.specs.JoinedDrawings.{joined_drawing}
use Rattle.line_graph.specs.PieceGraphs.{piece_graph}
use Rattle.line_graph.specs.Pieces.{ArePieces}
use Rattle.line_graph.specs.PiecesOfDrawings.{ArePiecesOf, graph_of, lines_of_pieces}
use Rattle.line_sections.specs.declared.spot.Spot.{Spot}

-- The lines as they are drawn, joined, with the given starts and ends; or the first fault.
abbrev pub joined_with : DrawingValue → (starts ends : List Spot) → Result DrawingValue DrawKind
joined_with drawn starts ends =
    and_then (joined_drawing drawn) (λ joined. with_starts_and_ends joined starts ends)

-- Lines as they are drawn, with the drawing that they are joined to, or the fault of that one.
abbrev pub drawn_and_joined : DrawingValue → Result DrawingValue DrawKind
    → Result JoinedLines DrawKind
drawn_and_joined drawn joined =
    and_then joined (λ whole. Ok (record { drawn = drawn; joined = whole }))

-- The lines of a drawing as they are drawn, and joined with the given starts and ends; or the first
-- fault.
abbrev pub lines_joined : DrawingValue → (starts ends : List Spot) → Result JoinedLines DrawKind
lines_joined d starts ends = and_then (drawn_lines d) (λ drawn.
    drawn_and_joined drawn (joined_with drawn starts ends))

-- The joined drawing with the best ends of its pieces beside its own, or the first fault.
abbrev pub with_ends_found : DrawingValue → DrawingValue → List Piece → List PieceEnds
    → Result DrawingValue DrawKind
with_ends_found drawn before pieces founds = joined_with drawn
    (with_best_ends true before.starts pieces founds)
    (with_best_ends false before.ends pieces founds)

-- A joined drawing is that of lines as they are drawn, with its own starts and ends.
abbrev pub IsWholeOf : (drawn joined : DrawingValue) → Type 0
IsWholeOf drawn joined =
    joined_drawing (record drawn { starts = joined.starts; ends = joined.ends }) ≡ Ok joined

-- A drawing has the given pieces, the graph of each with the ends that are found of it as its start
-- and end, or with its own where none are found.
pub record HasFoundEnds (new : DrawingValue) (pieces : List Piece) (founds : List PieceEnds)
    : Type 0 where
  pub pieces_are : ArePieces new (lines_of_pieces pieces)
  pub graphs : AllZip (λ p found. piece_graph new p.lines
      ≡ piece_with_ends (graph_of p) (ends_found found)) pieces founds

-- A freed drawing of lines as they are drawn, and of the drawing that they are joined to: its
-- pieces, what is found of their ends, and the drawing with the best ends beside its own. Each
-- piece has those that are found of it.
pub record IsFreed (drawn before : DrawingValue) (freed : FreedDrawing) : Type 0 where
  pub pieces : ArePiecesOf before freed.pieces
  pub found : AreFound freed.pieces freed.found
  pub joined : with_ends_found drawn before freed.pieces freed.found ≡ Ok freed.joined
  pub ends : HasFoundEnds freed.joined freed.pieces freed.found
