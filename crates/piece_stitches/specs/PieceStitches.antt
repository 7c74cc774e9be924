-- The stitches of pieces, in the order of sewing, with the travel to each from the one before.
-- Lengths are in thousandths of a millimetre.
use Rattle.std.specs.Prelude.{ℕ, ◌+◌, ◌^◌, ◌≤◌, ◌<◌, List, [], ◌∷◌, All, length}
use Rattle.line_graph.specs.declared.limits.TheConstants.{MAX_LINES}
use Rattle.line_graph.specs.declared.piece.Piece.{Piece}
use Rattle.line_graph.specs.Drawings.{DrawingValue}
use Rattle.line_graph.specs.PiecesOfDrawings.{graph_of}
use Rattle.piece_stitches.specs.declared.counting.PieceStitches.{PieceStitches}
use Rattle.piece_stitches.specs.StitchSummaries.{summary_of_lines}
use Rattle.piece_stitches.specs.Travels.{travel_between}

-- The stitches of a piece, each line sewn once, with the given travel to it.
abbrev pub stitches_of_piece : DrawingValue → Piece → ℕ → PieceStitches
stitches_of_piece d p travel = record { summary = summary_of_lines d p.lines; travel = travel }

-- The stitches of the pieces that are sewn after a piece.
abbrev pub stitches_after : DrawingValue → Piece → List Piece → List PieceStitches
stitches_after d before [] = []
stitches_after d before (p ∷ rest) =
    stitches_of_piece d p (travel_between (graph_of before) (graph_of p)) ∷ stitches_after d p rest

-- The stitches of pieces. There is no travel to the first one.
abbrev pub stitches_of_pieces : DrawingValue → List Piece → List PieceStitches
stitches_of_pieces d [] = []
stitches_of_pieces d (p ∷ rest) = stitches_of_piece d p 0 ∷ stitches_after d p rest

-- The thread that the stitches of all pieces need.
abbrev pub total_thread : List PieceStitches → ℕ
total_thread [] = 0
total_thread (s ∷ rest) = s.summary.thread + total_thread rest

-- The travel between all pieces.
abbrev pub total_travel : List PieceStitches → ℕ
total_travel [] = 0
total_travel (s ∷ rest) = s.travel + total_travel rest

-- The lines of a piece are lines of the drawing, and within the limit of their number.
pub record HasLinesOf (d : DrawingValue) (p : Piece) : Type 0 where
  pub there : All (λ line. line < length d.lines) p.lines
  pub few : length p.lines ≤ MAX_LINES

-- Lengths that can be added for as many pieces as there are.
pub record HasSmallLengths (s : PieceStitches) : Type 0 where
  pub thread : s.summary.thread ≤ 2 ^ 100
  pub travel : s.travel < 2 ^ 64

-- Totals that are within the range of 128 bits.
pub record HasSmallTotals (all : List PieceStitches) : Type 0 where
  pub thread : total_thread all < 2 ^ 128
  pub travel : total_travel all < 2 ^ 128
