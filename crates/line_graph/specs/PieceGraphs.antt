-- The graph of a piece: its junctions are the vertices, its lines the edges. Junctions are numbered
-- from 0 within their piece, lines as in the drawing. Costs count steps.
use Rattle.std.specs.Prelude.{ℕ, zero, suc, ◌+◌, ◌%◌, ◌==◌, Bool, true, false, List, [], ◌∷◌, ◌++◌, Option, Some, None, length, map, filter, position, if◌then◌else◌}
use Rattle.std.specs.List.{flat_map, list_any, position_or_len, range_with_len}
use Rattle.std.specs.Option.{option_or}
use Rattle.design_model.specs.declared.point.Point.{Point}
use Rattle.design_model.specs.Points.{is_same_point}
use Rattle.line_sections.specs.declared.spot.Spot.{Spot}
use Rattle.line_graph.specs.declared.edge.Edge.{Edge}
use Rattle.line_graph.specs.Drawings.{DrawingValue, block_of, first_point, last_point, points_of, endpoints}
use Rattle.line_graph.specs.Pieces.{first_line}
use Rattle.line_graph.specs.LineNeedles.{cost_of_line}

-- The graph of a piece: its block, its lines, the points of its junctions, an edge for each line,
-- and the degree of each junction. The start and the end are the junctions where a walk must start
-- and end, if the drawing names them.
pub record PieceValue : Type 0 where
  pub block : ℕ
  pub lines : List ℕ
  pub junctions : List Point
  pub edges : List Edge
  pub degrees : List ℕ
  pub start : Option ℕ
  pub end : Option ℕ

-- A list of points with one more at the end, unless the list has it already.
abbrev pub with_point : List Point → Point → List Point
with_point points p = if list_any (is_same_point p) points then points else points ++ p ∷ []

-- A list of points followed by those of another list that it doesn't have, each once.
abbrev pub with_points : List Point → List Point → List Point
with_points points [] = points
with_points points (p ∷ rest) = with_points (with_point points p) rest

-- The junctions of lines: the endpoints of the lines in their order, each point once.
abbrev pub junctions_of : DrawingValue → List ℕ → List Point
junctions_of d lines = with_points [] (flat_map (λ line. endpoints (points_of d line)) lines)

-- The number of the junction at a point, or the number of junctions where there is none.
abbrev pub junction_number : List Point → Option Point → ℕ
junction_number junctions None = length junctions
junction_number junctions (Some p) = position_or_len (is_same_point p) junctions

-- The edge of a line, between the numbers of the junctions at its two endpoints.
abbrev pub edge_between : DrawingValue → List Point → ℕ → Edge
edge_between d junctions line = record {
  a = junction_number junctions (first_point (points_of d line));
  b = junction_number junctions (last_point (points_of d line));
  cost = cost_of_line d line;
}

-- The number 1 for true, and 0 for false.
abbrev pub one_if : Bool → ℕ
one_if true = 1
one_if false = 0

-- The degree of a junction: the number of line ends there. A line that ends where it starts counts
-- twice.
abbrev pub degree : List Edge → ℕ → ℕ
degree [] j = 0
degree (e ∷ es) j = (one_if (e.a == j) + one_if (e.b == j)) + degree es j

-- The degrees of junctions with successive numbers, from the number `at` on.
abbrev pub degrees_from : List Edge → (at count : ℕ) → List ℕ
degrees_from edges at zero = []
degrees_from edges at (suc n) = degree edges at ∷ degrees_from edges (at + 1) n

-- The number of the junction at a spot, if the block has a junction there.
abbrev pub junction_at_spot : ℕ → List Point → Spot → Option ℕ
junction_at_spot block junctions spot =
    if spot.block == block then position (is_same_point spot.at) junctions else None

-- The number of the first spot in a list that is a junction of the block, if there is one.
abbrev pub first_junction_among : ℕ → List Point → List Spot → Option ℕ
first_junction_among block junctions [] = None
first_junction_among block junctions (spot ∷ rest) =
    option_or (junction_at_spot block junctions spot) (first_junction_among block junctions rest)

-- The graph with the given lines, junctions and edges, and with the start and the end of the
-- drawing that are among the junctions.
abbrev pub piece_between : DrawingValue → List ℕ → List Point → List Edge → PieceValue
piece_between d lines junctions edges = record {
  block = block_of d (first_line lines);
  lines = lines;
  junctions = junctions;
  edges = edges;
  degrees = degrees_from edges 0 (length junctions);
  start = first_junction_among (block_of d (first_line lines)) junctions d.starts;
  end = first_junction_among (block_of d (first_line lines)) junctions d.ends;
}

-- The graph of the piece that consists of the given lines.
abbrev pub piece_graph : DrawingValue → List ℕ → PieceValue
piece_graph d lines =
    piece_between d lines (junctions_of d lines) (map (edge_between d (junctions_of d lines)) lines)

-- A number is odd.
abbrev pub is_odd : ℕ → Bool
is_odd n = n % 2 == 1

-- The closing edge from the given end of a walk back to its given start, at no cost, if both are
-- given.
abbrev pub closing_edge : (from to : Option ℕ) → List Edge
closing_edge (Some from) (Some to) = record { a = to; b = from; cost = 0 } ∷ []
closing_edge (Some from) None = []
closing_edge None to = []

-- The junction where a walk over a piece must start, if one is given: the piece's start, else its
-- end.
abbrev pub given_start : PieceValue → Option ℕ
given_start p = option_or p.start p.end

-- The junction where a walk over a piece must end, if one is given: the piece's end, else its
-- start.
abbrev pub given_end : PieceValue → Option ℕ
given_end p = option_or p.end p.start

-- The edges of a piece, and the closing edge where a start and an end are given. With that edge
-- each fitting walk becomes a closed walk.
abbrev pub edges_with_closing : PieceValue → List Edge
edges_with_closing p = closing_edge (given_start p) (given_end p) ++ p.edges

-- An odd junction: its degree is odd, where the closing edge counts too. A start and an end that
-- differ thereby change from odd to even, or from even to odd.
abbrev pub is_odd_junction : PieceValue → ℕ → Bool
is_odd_junction p j = is_odd (degree (edges_with_closing p) j)

-- The numbers of the odd junctions of a piece, in increasing order.
abbrev pub odd_junctions : PieceValue → List ℕ
odd_junctions p = filter (is_odd_junction p) (range_with_len 0 (length p.junctions))
