-- The lines of a piece, and how they are found by labels. Indexes of lines count from 0. Used only
-- inside this crate.
use Rattle.std.specs.Prelude.{◌≡◌, ℕ, ◌+◌, ◌-◌, ◌<◌, ◌≤◌, ◌==◌, Bool, List, length, map, filter, get_or, set, All, Contains}
use Rattle.std.specs.List.{range_with_len}
use Rattle.std.specs.List.Sorted.{IsStrictlyIncreasing}
use Rattle.design_model.specs.declared.point.Point.{Point}
use Rattle.line_graph.specs.declared.edge.Edge.{Edge}
use Rattle.line_graph.specs.Drawings.{DrawingValue, points_of, endpoints}
use Rattle.line_graph.specs.LineLabels.{AreAtMostIndex, AreConnectedToLabels}
use Rattle.line_graph.specs.PieceGraphs.{edge_between, with_points}
use Rattle.line_graph.specs.Pieces.{AreConnected, LinesTouch, first_line}

-- The lines of one piece in increasing order: all are connected, and each line that touches one of
-- them is among them.
pub record IsPiece (d : DrawingValue) (lines : List ℕ) : Type 0 where
  pub some : 1 ≤ length lines
  pub there : All (λ line. line < length d.lines) lines
  pub rising : IsStrictlyIncreasing lines
  pub joined : All (AreConnected d (first_line lines)) lines
  pub whole : (i j : ℕ) → Contains lines i → LinesTouch d i j → Contains lines j

-- Labels that identify pieces: each line is connected to its label, which is at most its index, and
-- lines that touch have equal labels.
pub record ArePieceLabels (d : DrawingValue) (labels : List ℕ) : Type 0 where
  pub sized : length labels ≡ length d.lines
  pub low : AreAtMostIndex labels
  pub reached : AreConnectedToLabels d labels
  pub agree : (i j : ℕ) → LinesTouch d i j → get_or labels i 0 ≡ get_or labels j 0

-- A line has the given label.
abbrev pub has_label : List ℕ → ℕ → ℕ → Bool
has_label labels label line = get_or labels line 0 == label

-- The lines with the given label, in increasing order.
abbrev pub lines_labelled : List ℕ → ℕ → List ℕ
lines_labelled labels label =
    filter (has_label labels label) (range_with_len label (length labels - label))

-- A line is its own label, and therefore the first of its piece.
abbrev pub is_own_label : List ℕ → ℕ → Bool
is_own_label labels line = get_or labels line 0 == line

-- The pieces by their labels: for each label the lines that have it.
abbrev pub pieces_by_label : List ℕ → List (List ℕ)
pieces_by_label labels =
    map (lines_labelled labels) (filter (is_own_label labels) (range_with_len 0 (length labels)))

-- The ends of a line become junctions unless they are junctions already. The edge is that of the
-- line, whatever junctions are added later.
pub record AddsEdge (d : DrawingValue) (line : ℕ) (old new : List Point) (edge : Edge)
    : Type 0 where
  pub seen : new ≡ with_points old (endpoints (points_of d line))
  pub few : length new ≤ length old + 2
  pub is : (more : List Point) → edge ≡ edge_between d (with_points new more) line

-- The degree of a junction grows by one.
abbrev pub CountsEnd : ℕ → List ℕ → List ℕ → Type 0
CountsEnd junction old new = new ≡ set old junction (get_or old junction 0 + 1)

-- The degrees grow by one at each end of an edge.
pub record CountsEnds (edge : Edge) (old new : List ℕ) : Type 0 where
  pub between : List ℕ
  pub first : CountsEnd edge.a old between
  pub last : CountsEnd edge.b between new
