-- A piece sewn before another: its lines move to just before the first line of the other piece. A
-- piece is the list of the indexes of its lines, which count from 0. Pieces are numbered from 1.
use Rattle.std.specs.Prelude.{◌≡◌, ℕ, ◌+◌, ◌-◌, ◌<◌, ◌==◌, Bool, false, not, List, ◌∷◌, ◌++◌, map, filter, length, slice_get, Option, Some, None, Result, Ok, Err, nat_lt, unwrap_or, All, if◌then◌else◌}
use Rattle.std.specs.List.{list_any, range_with_len}
use Rattle.std.specs.List.Sorted.{IsPermutation}
use Rattle.design_model.specs.Points.{origin}
use Rattle.drawing_edits.specs.declared.edit_fault.EditFault.{EditFault}
use Rattle.drawing_edits.specs.declared.edit_fault.EditFault.TheVariants as fault
use Rattle.drawing_edits.specs.EditFaults.{edit_answer}
use Rattle.drawing_edits.specs.RedrawnDrawings.{redrawn}
use Rattle.line_graph.specs.declared.piece.Piece.{Piece}
use Rattle.line_graph.specs.Drawings.{DrawingValue, KeepsDrawingLimits, block_of, first_point, points_of}
use Rattle.line_graph.specs.GrowingDrawings.{and_then}
use Rattle.line_graph.specs.Pieces.{ArePieces, first_line}
use Rattle.line_graph.specs.WalkEnds.{are_connected_spots}
use Rattle.line_sections.specs.declared.spot.Spot.{Spot}
use Rattle.line_sections.specs.Lines.{LineValue}

-- The spot where a line begins, or the origin of its block for a line without points.
abbrev pub spot_of_line : DrawingValue → ℕ → Spot
spot_of_line d line =
    record { block = block_of d line; at = unwrap_or (first_point (points_of d line)) origin }

-- Two lines are in one piece: lines connect the spots where they begin.
abbrev pub are_in_one_piece : DrawingValue → (i j : ℕ) → Bool
are_in_one_piece d i j = are_connected_spots d.lines (spot_of_line d i) (spot_of_line d j)

-- The piece that has a line.
abbrev pub piece_of_line : DrawingValue → ℕ → List ℕ
piece_of_line d line = filter (are_in_one_piece d line) (range_with_len 0 (length d.lines))

-- A line is the first of its piece.
abbrev pub is_first_of_piece : DrawingValue → ℕ → Bool
is_first_of_piece d line = first_line (piece_of_line d line) == line

-- The pieces of a drawing, ordered by their first lines.
abbrev pub pieces_in_order : DrawingValue → List (List ℕ)
pieces_in_order d =
    map (piece_of_line d) (filter (is_first_of_piece d) (range_with_len 0 (length d.lines)))

-- The pieces in order are the pieces of a drawing: their numbers are those of all reports.
abbrev pub PiecesInOrderArePieces : Type 0
PiecesInOrderArePieces = (d : DrawingValue) → KeepsDrawingLimits d → ArePieces d (pieces_in_order d)

-- A piece that was looked up by a number, or the fault that there is none.
abbrev pub found_piece : ℕ → Option (List ℕ) → Result (List ℕ) EditFault
found_piece number (Some piece) = Ok piece
found_piece number None = Err (fault.NoPiece number)

-- The piece with a number, or the fault that there is none.
abbrev pub numbered_piece : List (List ℕ) → ℕ → Result (List ℕ) EditFault
numbered_piece pieces number = found_piece number (slice_get pieces (number - 1))

-- The lines from one index to before another that are not in a piece.
abbrev pub lines_outside : List ℕ → (from to : ℕ) → List ℕ
lines_outside piece from to =
    filter (λ line. not (list_any (λ n. n == line) piece)) (range_with_len from (to - from))

-- The first `count` lines in order, with a piece moved to just before a line.
abbrev pub order_with_piece : List ℕ → (before count : ℕ) → List ℕ
order_with_piece piece before count =
    lines_outside piece 0 before ++ (piece ++ lines_outside piece before count)

-- The line with an index.
abbrev pub line_numbered : DrawingValue → ℕ → LineValue
line_numbered d line = record { block = block_of d line; points = points_of d line }

-- The lines of a drawing, with a piece moved to just before a line.
abbrev pub lines_with_piece : DrawingValue → List ℕ → ℕ → List LineValue
lines_with_piece d piece before =
    map (line_numbered d) (order_with_piece piece before (length d.lines))

-- The lines with piece p, which is `one`, before piece q, which is `other`, or why they cannot be.
abbrev pub ordered_lines : (p q : ℕ) → (one other : List ℕ) → DrawingValue
    → Result (List LineValue) EditFault
ordered_lines p q one other d =
    if p == q then Err fault.SamePiece
    else (if not (block_of d (first_line one) == block_of d (first_line other))
    then Err fault.OtherBlock
    else (if nat_lt p q then Ok d.lines else Ok (lines_with_piece d one (first_line other))))

-- The lines with piece p before piece q, or why they cannot be.
abbrev pub lines_in_order : (p q : ℕ) → DrawingValue → Result (List LineValue) EditFault
lines_in_order p q d =
    and_then (numbered_piece (pieces_in_order d) p) (λ one.
    and_then (numbered_piece (pieces_in_order d) q) (λ other. ordered_lines p q one other d))

-- The drawing that is drawn from given lines in place of its own.
abbrev pub drawn_from : DrawingValue → List LineValue → Result DrawingValue EditFault
drawn_from d lines = edit_answer (redrawn (record d { lines = lines }))

-- The drawing with piece p sewn before piece q, or why the edit is refused.
abbrev pub piece_put_before : (p q : ℕ) → DrawingValue → Result DrawingValue EditFault
piece_put_before p q d = and_then (lines_in_order p q d) (drawn_from d)

-- A piece as it is computed, with its block: its lines are lines of the drawing in that block.
pub record IsPieceOf (d : DrawingValue) (p : Piece) : Type 0 where
  pub block : p.block ≡ block_of d (first_line p.lines)
  pub there : All (λ line. line < length d.lines) p.lines

-- The lines with one piece before another are the lines of the drawing in another order, each with
-- its points.
abbrev pub OrdersKeepLines : Type 0
OrdersKeepLines = (p q : ℕ) (d : DrawingValue) (lines : List LineValue)
    → lines_in_order p q d ≡ Ok lines → IsPermutation d.lines lines

-- After a piece that is moved to just before a line of another one comes that line. Before the
-- piece come the other lines before that line.
abbrev pub PiecesComeBefore : Type 0
PiecesComeBefore = (piece : List ℕ) (line count : ℕ) → line < count
    → list_any (λ n. n == line) piece ≡ false
    → order_with_piece piece line count
    ≡ lines_outside piece 0 line ++ (piece ++ (line ∷ lines_outside piece (line + 1) count))
