-- The lines of the pieces of a drawing are lines of it, and totals over few pieces are small.
use Rattle.std.proofs.Common.{◌≡◌, ℕ, ◌*◌, ◌^◌, ◌<◌, ◌≤◌, List, [], ◌∷◌, ◌++◌, All, length, append_assoc}
use native.Mathlib.Omega.{arith}
use Rattle.std.proofs.lemmas.List.Elements.{All-cons, All-head, All-nil, All-tail}
use Rattle.std.specs.List.{concat}
use Rattle.line_graph.specs.declared.limits.TheConstants.{MAX_LINES}
use Rattle.line_graph.specs.declared.piece.Piece.{Piece}
use Rattle.line_graph.specs.Drawings.{DrawingValue, KeepsDrawingLimits}
use Rattle.line_graph.specs.SewnWalks.{PiecesKeepLimits}
use Rattle.line_graph.specs.PiecesOfDrawings.{ArePiecesOf, graph_of, lines_of_pieces}
use Rattle.piece_stitches.specs.declared.counting.PieceStitches.{PieceStitches}
use Rattle.piece_stitches.specs.PieceStitches.{HasLinesOf, HasSmallLengths, HasSmallTotals, stitches_after, stitches_of_piece, total_thread, total_travel}
use Rattle.piece_stitches.specs.Travels.{travel_between}
use Rattle.line_graph.proofs.CallerLemmas.{length_of_lists}
use Rattle.design_model.proofs.ListLemmas.{all_left, all_right}

abbrev pub IsLineOf : DrawingValue → ℕ → Type 0
IsLineOf d line = line < length d.lines

-- the lines of pieces are lines of the drawing
lines_there : (d : DrawingValue) (pieces : List Piece) → All (IsLineOf d) (concat (lines_of_pieces pieces)) → All (HasLinesOf d) pieces
lines_there d [] all = All-nil (HasLinesOf d)
lines_there d (p ∷ rest) all = All-cons (HasLinesOf d) p rest
    (record { there = all_left (IsLineOf d) p.lines (concat (lines_of_pieces rest)) all; few = p.kept.few })
    (lines_there d rest (all_right (IsLineOf d) p.lines (concat (lines_of_pieces rest)) all))

pub pieces_have_lines : (d : DrawingValue) (pieces : List Piece) → ArePiecesOf d pieces → All (HasLinesOf d) pieces
pieces_have_lines d pieces are = lines_there d pieces are.are.there

-- a drawing has no more pieces than it may have lines
pub few_pieces : (d : DrawingValue) (pieces : List Piece) → KeepsDrawingLimits d → PiecesKeepLimits → ArePiecesOf d pieces
    → length pieces ≤ MAX_LINES
few_pieces d pieces keeps theorem are = omega (arith, (theorem d (lines_of_pieces pieces) keeps are.are).count, length_of_lists pieces)

thread_within : (all : List PieceStitches) → All HasSmallLengths all → total_thread all ≤ length all * 2 ^ 100
thread_within [] small = omega arith
thread_within (s ∷ rest) small =
    omega (arith, (All-head HasSmallLengths s rest small).thread, thread_within rest (All-tail HasSmallLengths s rest small))

travel_within : (all : List PieceStitches) → All HasSmallLengths all → total_travel all ≤ length all * 2 ^ 64
travel_within [] small = omega arith
travel_within (s ∷ rest) small =
    omega (arith, (All-head HasSmallLengths s rest small).travel, travel_within rest (All-tail HasSmallLengths s rest small))

pub totals_are_small : (all : List PieceStitches) → All HasSmallLengths all → length all ≤ MAX_LINES → HasSmallTotals all
totals_are_small all small few =
    record { thread = omega (arith, thread_within all small, few); travel = omega (arith, travel_within all small, few) }

-- the stitches of a piece, put after those of the pieces before it
pub with_piece_next : (d : DrawingValue) (all : List PieceStitches) (before p : Piece) (more : List Piece)
    → (all ++ stitches_of_piece d p (travel_between (graph_of before) (graph_of p)) ∷ []) ++ stitches_after d p more
    ≡ all ++ stitches_after d before (p ∷ more)
with_piece_next d all before p more = append_assoc all _ _
