-- The picture of a drawing: a grid, its lines in the colours of their threads, the numbers of lines
-- and pieces, a dot at each junction, and marks at given starts and ends, and where lines should
-- meet and don't. The pieces and junctions are those that are sewn; the numbers of lines and the
-- places are of the lines as they are drawn.
use Rattle.std.specs.Prelude.{◌≡◌, ℕ, ◌+◌, ◌*◌, ◌-ℤ◌, pos, max, min, List, ◌++◌, Option, length, map}
use Rattle.std.specs.List.{flat_map}
use Rattle.design_model.specs.declared.bounds.Extent.{Extent}
use Rattle.design_model.specs.declared.point.Point.{Point}
use Rattle.design_model.specs.Extents.{extent_height, extent_of_points, extent_width}
use Rattle.design_picture.specs.declared.layout.Area.{Area}
use Rattle.design_picture.specs.Captions.{group_end}
use Rattle.design_picture.specs.Layouts.{below_head, corners, top_text}
use Rattle.drawing_picture.specs.declared.drawn_picture.TheConstants.{KEY_LINES, LABEL_HEIGHT, MEETING_GAP, SIDE_SPACE, UPPER_SPACE}
use Rattle.drawing_picture.specs.declared.grid.Grid.{Grid}
use Rattle.drawing_picture.specs.declared.junction_marks.JunctionMark.{JunctionMark}
use Rattle.drawing_picture.specs.declared.label_order.Side.TheVariants as side
use Rattle.drawing_picture.specs.declared.labels.Label.{Label}
use Rattle.drawing_picture.specs.DrawingCaptions.{counts_text, drawing_words, grid_words, junction_dot, labels_words, legend_of, mark_keys, places_text, shown_blocks, spot_mark}
use Rattle.drawing_picture.specs.Grids.{grid_around_extent, grid_text}
use Rattle.drawing_picture.specs.JunctionMarks.{marks_of_pieces, odd_marks}
use Rattle.drawing_picture.specs.LabelOrders.{labels_of_side}
use Rattle.drawing_picture.specs.LabelTexts.{labels_text}
use Rattle.drawing_picture.specs.Labels.{labels_of_all}
use Rattle.drawing_picture.specs.LinePaths.{line_paths}
use Rattle.drawing_picture.specs.PlaceMarks.{meeting_mark}
use Rattle.line_graph.specs.Drawings.{DrawingValue}
use Rattle.line_graph.specs.PieceGraphs.{PieceValue, piece_graph}
use Rattle.line_graph.specs.Pieces.{ArePieces}
use Rattle.line_meetings.specs.declared.meeting.Meeting.{Meeting}
use Rattle.line_meetings.specs.Meetings.{meetings_of_lines}
use Rattle.line_sections.specs.Lines.{LineValue, points_of_lines}
use Rattle.picture_parts.specs.declared.marks.Mark.TheVariants as mark
use Rattle.picture_parts.specs.declared.sizes.PictureSize.{PictureSize}
use Rattle.picture_parts.specs.Sheets.{foot_text}

-- The extent of a drawing's points.
abbrev pub drawn_extent : DrawingValue → Option Extent
drawn_extent d = extent_of_points (points_of_lines d.lines)

-- The grid of a drawing.
abbrev pub grid_of_drawing : DrawingValue → Grid
grid_of_drawing d = grid_around_extent (corners (drawn_extent d))

-- The point whose coordinates count from the least one that a needle reaches.
abbrev pub counted_point_of : (x y : ℕ) → Point
counted_point_of x y = record { x = pos x -ℤ pos 30000; y = pos y -ℤ pos 30000 }

-- The area of a grid, with so many labels at most on a side, never more than 128, and a legend of
-- so many blocks.
abbrev pub area_of_grid : Grid → (labels blocks : ℕ) → Option PictureSize → Area
area_of_grid g labels blocks size = record {
  corners = record {
    min = counted_point_of g.left g.top;
    max = counted_point_of g.right (max g.bottom (g.top + LABEL_HEIGHT * min labels 128));
  };
  side = SIDE_SPACE;
  above = UPPER_SPACE;
  lines = shown_blocks blocks + KEY_LINES;
  size = size;
}

-- The text before the grid.
abbrev pub drawing_top : DrawingValue → Area → List ℕ
drawing_top d area = top_text area d.label drawing_words

-- The marks: of junctions, given starts and ends, and places where lines should meet.
unfoldable pub drawing_marks : DrawingValue → List JunctionMark → List Meeting → List ℕ
drawing_marks d marks meetings = flat_map junction_dot marks
    ++ (flat_map (spot_mark mark.Start) d.starts ++ (flat_map (spot_mark mark.End) d.ends
    ++ flat_map meeting_mark meetings))

-- The texts below the lines, of which so many are drawn.
unfoldable pub drawing_below : DrawingValue → Area → (step drawn pieces : ℕ)
    → List JunctionMark → List Meeting → List ℕ
drawing_below d area step drawn pieces marks meetings =
    below_head area d.label (extent_width (drawn_extent d)) (extent_height (drawn_extent d))
    ++ (counts_text pieces (length marks) (odd_marks marks) drawn (length d.lines)
    ++ (mark_keys ++ (places_text meetings ++ (grid_words step (labels_words pieces drawn)
    ++ (legend_of d.threads ++ group_end)))))

-- The picture of a drawing of so many pieces and lines as drawn, with the marks of its junctions
-- and meetings, and with labels on both sides of its grid.
unfoldable pub drawing_with : DrawingValue → Area → (drawn pieces : ℕ) → List JunctionMark
    → List Meeting → (left right : List Label) → List ℕ
drawing_with d area drawn pieces marks meetings left right = drawing_top d area
    ++ (grid_text (grid_of_drawing d) ++ (line_paths d.threads d.lines
    ++ (labels_text (grid_of_drawing d) left right ++ (drawing_marks d marks meetings
    ++ (drawing_below d area (grid_of_drawing d).step drawn pieces marks meetings ++ foot_text)))))

-- The picture of a drawing with labels on both sides of its grid.
abbrev pub drawing_labelled : DrawingValue → Option PictureSize → (drawn pieces : ℕ)
    → List JunctionMark → List Meeting → (left right : List Label) → List ℕ
drawing_labelled d size drawn pieces marks meetings left right = drawing_with d
    (area_of_grid (grid_of_drawing d) (max (length left) (length right)) (length d.threads) size)
    drawn pieces marks meetings left right

-- The picture of a drawing with labels.
abbrev pub labelled_on_sides : DrawingValue → Option PictureSize → (drawn pieces : ℕ)
    → List JunctionMark → List Meeting → List Label → List ℕ
labelled_on_sides d size drawn pieces marks meetings labels =
    drawing_labelled d size drawn pieces marks meetings
    (labels_of_side side.Left (grid_of_drawing d) labels)
    (labels_of_side side.Right (grid_of_drawing d) labels)

-- The picture of a drawing that has those pieces, whose lines are drawn like that.
abbrev pub picture_of_pieces : DrawingValue → Option PictureSize → List PieceValue
    → List LineValue → List ℕ
picture_of_pieces d size pieces lines = labelled_on_sides d size (length lines) (length pieces)
    (marks_of_pieces pieces) (meetings_of_lines MEETING_GAP lines) (labels_of_all pieces lines)

-- The text is the picture of a drawing, whose lines are drawn like that, in true size or in
-- another.
pub record IsDrawingPicture (d : DrawingValue) (lines : List LineValue)
    (size : Option PictureSize) (text : List ℕ) : Type 0 where
  pub pieces : List (List ℕ)
  pub pieces_are : ArePieces d pieces
  pub shown : text ≡ picture_of_pieces d size (map (piece_graph d) pieces) lines
