-- The report of `free`: a line for each piece that gets a start and an end, or is left for its many
-- odd junctions, and the sums. Costs count steps; a walk has one penetration more than it costs.
use Rattle.std.specs.Prelude.{ℕ, ◌+◌, List, [], ◌∷◌, ◌++◌, Option, Some, None, codes, decimal, length, slice_get}
use Rattle.std.specs.Fmt.{signed_decimal}
use Rattle.design_model.specs.declared.point.Point.{Point}
use Rattle.design_model.specs.TextLines.{newline}
use Rattle.drawing_reports.specs.LookTexts.{piece_title}
use Rattle.free_ends.specs.declared.end_choice.BestEnds.{BestEnds}
use Rattle.free_ends.specs.declared.end_choice.WalkEnds.{WalkEnds}
use Rattle.free_ends.specs.declared.piece_ends.PieceEnds.{PieceEnds}
use Rattle.free_ends.specs.declared.piece_ends.PieceEnds.TheVariants as found
use Rattle.line_graph.specs.declared.piece.Piece.{Piece}
use Rattle.line_graph.specs.PiecesOfDrawings.{graph_of}
use Rattle.line_graph.specs.PieceGraphs.{PieceValue, odd_junctions}

-- The coordinates of a point after a word, if there is a point.
abbrev pub at_text : List ℕ → Option Point → List ℕ
at_text word None = word
at_text word (Some p) = word ++ (signed_decimal p.x ++ (codes " " ++ signed_decimal p.y))

-- The penetrations of a least closed walk and of one with the best ends, and the end of the line.
abbrev pub penetrations_text : (closed cost : ℕ) → List ℕ
penetrations_text closed cost = codes " penetrations " ++ (decimal (closed + 1)
    ++ (codes " to " ++ (decimal (cost + 1) ++ newline)))

-- The line of a piece that gets a start and an end.
abbrev pub ends_line : ℕ → PieceValue → BestEnds → Option WalkEnds → List ℕ
ends_line index p best None = []
ends_line index p best (Some ends) = piece_title index p
    ++ (at_text (codes " start ") (slice_get p.junctions ends.start)
    ++ (at_text (codes " end ") (slice_get p.junctions ends.end)
    ++ penetrations_text best.closed best.cost))

-- The line of a piece that is left as it is.
abbrev pub left_line : ℕ → PieceValue → List ℕ
left_line index p = piece_title index p
    ++ (codes " odd " ++ (decimal (length (odd_junctions p)) ++ (codes " left" ++ newline)))

-- The line of a piece, if it has one.
abbrev pub found_line : ℕ → PieceValue → PieceEnds → List ℕ
found_line index p found.Given = []
found_line index p (found.Best best) = ends_line index p best best.ends
found_line index p found.TooMany = left_line index p

-- The lines of pieces, from the given index on.
abbrev pub found_lines : ℕ → List Piece → List PieceEnds → List ℕ
found_lines index (p ∷ rest) (f ∷ more) =
    found_line index (graph_of p) f ++ found_lines (index + 1) rest more
found_lines index [] founds = []
found_lines index (p ∷ rest) [] = []

-- The penetrations of least closed walks over the pieces whose best ends are found.
abbrev pub closed_penetrations : List PieceEnds → ℕ
closed_penetrations [] = 0
closed_penetrations (found.Given ∷ rest) = closed_penetrations rest
closed_penetrations (found.Best best ∷ rest) = (best.closed + 1) + closed_penetrations rest
closed_penetrations (found.TooMany ∷ rest) = closed_penetrations rest

-- The penetrations of walks with the best ends over these pieces.
abbrev pub free_penetrations : List PieceEnds → ℕ
free_penetrations [] = 0
free_penetrations (found.Given ∷ rest) = free_penetrations rest
free_penetrations (found.Best best ∷ rest) = (best.cost + 1) + free_penetrations rest
free_penetrations (found.TooMany ∷ rest) = free_penetrations rest

-- The line of the sums.
abbrev pub sums_text : (before after pieces : ℕ) → List ℕ
sums_text before after pieces = codes "penetrations " ++ (decimal before ++ (codes " to "
    ++ (decimal after ++ (codes " pieces " ++ (decimal pieces ++ newline)))))

-- The report of `free` on pieces and what is found of their ends.
abbrev pub free_report : List Piece → List PieceEnds → List ℕ
free_report pieces founds = found_lines 0 pieces founds
    ++ sums_text (closed_penetrations founds) (free_penetrations founds) (length pieces)
