-- Packings of odd cuts over the lines of a drawing, without the graph of a piece. Weights count
-- halves of a step, costs count steps.
use Rattle.std.specs.Prelude.{◌≡◌, ◌↔◌, ℕ, ◌+◌, ◌*◌, ◌%◌, ◌<◌, ◌≤◌, ◌==◌, Bool, not, List, Option, Some, None, length, All, count_by, sum_by, if◌then◌else◌}
use Rattle.std.specs.List.{list_any}
use Rattle.odd_cuts.specs.declared.cut.Cut.{Cut}
use Rattle.odd_cuts.specs.Packings.{IsPacking}
use Rattle.design_model.specs.declared.point.Point.{Point}
use Rattle.line_graph.specs.Drawings.{DrawingValue, first_point, last_point, points_of}
use Rattle.line_graph.specs.DrawnWalks.{given_point}
use Rattle.line_graph.specs.PieceGraphs.{junction_number, junctions_of, piece_graph}
use Rattle.line_graph.specs.ValidPieces.{IsValidPiece}
use Rattle.line_graph.specs.LineNeedles.{cost_of_line}

-- A cut of a piece holds a point: the junction there is a member. The members are the numbers of
-- junctions, in the order in which the lines of the piece name them.
abbrev pub holds_point : DrawingValue → List ℕ → Cut → Option Point → Bool
holds_point d lines cut p =
    list_any (λ m. junction_number (junctions_of d lines) p == m) cut.members

-- A cut parts two points: it holds exactly one of them.
abbrev pub parts : DrawingValue → List ℕ → Cut → Option Point → Option Point → Bool
parts d lines cut p q = if holds_point d lines cut p then not (holds_point d lines cut q)
    else holds_point d lines cut q

-- A line leads out of a cut: the cut parts the two ends of the line.
abbrev pub leads_out : DrawingValue → List ℕ → Cut → ℕ → Bool
leads_out d lines cut line =
    parts d lines cut (first_point (points_of d line)) (last_point (points_of d line))

-- The number 1 if the drawing gives a start and an end and the cut parts them, else 0.
abbrev pub given_apart : DrawingValue → List ℕ → Cut → (start end : Option Point) → ℕ
given_apart d lines cut (Some start) (Some end) =
    if parts d lines cut (Some start) (Some end) then 1 else 0
given_apart d lines cut (Some start) None = 0
given_apart d lines cut None end = 0

-- An odd cut over lines: the number of lines that lead out is odd, where one more is counted if the
-- cut parts the given start and end. A thread that returns to where it began leaves the cut as
-- often as it comes back, so it passes some line that leads out twice. A thread that ends on the
-- other side leaves it once more, and the count is of the other parity.
pub record IsOddOver (d : DrawingValue) (lines : List ℕ) (cut : Cut) : Type 0 where
  pub there : All (λ j. j < length (junctions_of d lines)) cut.members
  pub odd : (count_by (leads_out d lines cut) lines
      + given_apart d lines cut (given_point d lines d.starts)
      (given_point d lines d.ends)) % 2 ≡ 1

-- A packing over lines: each cut is odd, and the weights of the cuts that a line leads out of sum
-- to at most two halves for each step of the line.
pub record IsPackingOver (d : DrawingValue) (lines : List ℕ) (cuts : List Cut) : Type 0 where
  pub odd : All (IsOddOver d lines) cuts
  pub loads : All (λ line.
      sum_by (λ (cut : Cut). if leads_out d lines cut line then cut.weight else 0) cuts
      ≤ 2 * cost_of_line d line) lines

-- The packings over the graph of a piece are those over its lines.
abbrev pub PackingsAreOverLines : Type 0
PackingsAreOverLines = (d : DrawingValue) (lines : List ℕ) (cuts : List Cut)
    → IsValidPiece (piece_graph d lines)
    → IsPacking (piece_graph d lines) cuts ↔ IsPackingOver d lines cuts
