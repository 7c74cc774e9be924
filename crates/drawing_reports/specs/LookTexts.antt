-- The report of `look`: the size, a line for each piece, a line for each place, and the totals.
-- Blocks, pieces and lines are numbered from 1. Lengths are in tenths of a millimetre, rounded
-- down.
use Rattle.std.specs.Prelude.{ℕ, ◌+◌, List, [], ◌∷◌, ◌++◌, Option, codes, decimal, length}
use Rattle.design_model.specs.declared.bounds.Extent.{Extent}
use Rattle.design_model.specs.Extents.{extent_height, extent_width}
use Rattle.design_model.specs.TextLines.{newline}
use Rattle.line_graph.specs.declared.piece.Piece.{Piece}
use Rattle.line_graph.specs.PiecesOfDrawings.{graph_of}
use Rattle.line_graph.specs.PieceGraphs.{PieceValue, odd_junctions}
use Rattle.line_meetings.specs.declared.meeting.Meeting.{Meeting}
use Rattle.piece_stitches.specs.declared.counting.PieceStitches.{PieceStitches}
use Rattle.piece_stitches.specs.declared.stitch_summary.StitchSummary.{StitchSummary}
use Rattle.piece_stitches.specs.PieceStitches.{total_thread, total_travel}
use Rattle.drawing_reports.specs.declared.spacing.Spacing.{Spacing}
use Rattle.drawing_reports.specs.PlaceTexts.{place_count, place_lines, tenths_text}

-- The line of the size: the width and the height of the drawing's points, and its pieces.
abbrev pub look_head : Option Extent → ℕ → List ℕ
look_head extent pieces = codes "size " ++ (decimal (extent_width extent)
    ++ (codes " " ++ (decimal (extent_height extent)
    ++ (codes " pieces " ++ (decimal pieces ++ newline)))))

-- The block and the number of a piece.
abbrev pub piece_title : ℕ → PieceValue → List ℕ
piece_title index p = codes "block " ++ (decimal (p.block + 1)
    ++ (codes " piece " ++ decimal (index + 1)))

-- The numbers of lines, of junctions and of odd junctions of a piece.
abbrev pub piece_counts_text : PieceValue → List ℕ
piece_counts_text p = codes " lines " ++ (decimal (length p.lines)
    ++ (codes " junctions " ++ (decimal (length p.junctions)
    ++ (codes " odd " ++ decimal (length (odd_junctions p))))))

-- The number of the stitches of a piece, the lengths of the shortest and of the longest, and the
-- number of those below 1 mm.
abbrev pub stitches_text : StitchSummary → List ℕ
stitches_text s = codes " stitches " ++ (decimal s.stitches
    ++ (codes " shortest " ++ (tenths_text s.shortest
    ++ (codes " longest " ++ (tenths_text s.longest ++ (codes " short " ++ decimal s.short))))))

-- Lengths of thread and of travel, and the end of the line.
abbrev pub lengths_text : (thread travel : ℕ) → List ℕ
lengths_text thread travel = codes " thread " ++ (tenths_text thread
    ++ (codes " travel " ++ (tenths_text travel ++ newline)))

-- The line of a piece.
abbrev pub look_piece_line : ℕ → PieceValue → PieceStitches → List ℕ
look_piece_line index p s = piece_title index p ++ (piece_counts_text p
    ++ (stitches_text s.summary ++ lengths_text s.summary.thread s.travel))

-- The lines of pieces, from the given index on, with their stitches.
abbrev pub look_piece_lines : ℕ → List Piece → List PieceStitches → List ℕ
look_piece_lines index (p ∷ rest) (s ∷ more) =
    look_piece_line index (graph_of p) s ++ look_piece_lines (index + 1) rest more
look_piece_lines index [] all = []
look_piece_lines index (p ∷ rest) [] = []

-- The line of the totals.
abbrev pub look_totals_text : (pieces places thread travel : ℕ) → List ℕ
look_totals_text pieces places thread travel = codes "pieces " ++ (decimal pieces
    ++ (codes " places " ++ (decimal places ++ lengths_text thread travel)))

-- The report of `look`, with the extent of the points and the stitches of the pieces.
abbrev pub look_report : Option Extent → List Piece → List PieceStitches → List Meeting
    → List Spacing → List ℕ
look_report extent pieces all meetings spacings = look_head extent (length pieces)
    ++ (look_piece_lines 0 pieces all ++ (place_lines meetings spacings
    ++ look_totals_text (length pieces) (place_count meetings spacings) (total_thread all)
    (total_travel all)))
