-- Walks over the lines of a drawing as the needle sews them, without the graph of a piece. Points
-- are in tenths of a millimetre.
use Rattle.std.specs.Prelude.{◌≡◌, ◌↔◌, ℕ, ◌<◌, ◌==◌, ◌&&◌, Bool, true, List, [], ◌∷◌, Option, Some, None, length, map, All, Contains, option_map, if◌then◌else◌}
use Rattle.std.specs.List.{list_any}
use Rattle.design_model.specs.declared.point.Point.{Point}
use Rattle.design_model.specs.Points.{is_same_point}
use Rattle.line_sections.specs.declared.spot.Spot.{Spot}
use Rattle.line_graph.specs.declared.pass.Pass.{Pass}
use Rattle.line_graph.specs.Drawings.{DrawingValue, KeepsDrawingLimits, block_of, first_point, last_point}
use Rattle.line_graph.specs.PieceGraphs.{first_junction_among, junction_number, junctions_of, piece_graph}
use Rattle.line_graph.specs.Pieces.{ArePieces, first_line}
use Rattle.line_graph.specs.PieceWalks.{is_fitting_walk}
use Rattle.line_graph.specs.ValidPieces.{IsValidPiece}
use Rattle.line_graph.specs.Walks.{needles_of_pass}

-- Passes lead from one point to another: each starts where the one before ends, the first at the
-- point `from`, and the last ends at the point `to`.
abbrev pub Leads : DrawingValue → (from : Option Point) → List Pass → (to : Option Point) → Type 0
Leads d from [] to = from ≡ to
Leads d from (pass ∷ rest) to = (first_point (needles_of_pass d pass) ≡ from)
    × Leads d (last_point (needles_of_pass d pass)) rest to

-- A spot is a junction of the given lines: in their block, at the end of one of them.
abbrev pub is_junction_of : DrawingValue → List ℕ → Spot → Bool
is_junction_of d lines spot = spot.block == block_of d (first_line lines)
    && list_any (is_same_point spot.at) (junctions_of d lines)

-- The point of the first spot in a list that is a junction of the given lines, if there is one.
abbrev pub given_point : DrawingValue → List ℕ → List Spot → Option Point
given_point d lines [] = None
given_point d lines (spot ∷ rest) =
    if is_junction_of d lines spot then Some spot.at else given_point d lines rest

-- A thread that runs between two points keeps the start and the end that the drawing gives. If it
-- gives one of them alone, the thread returns there. If it gives neither, the thread returns to
-- where it began.
abbrev pub KeepsGivenEnds : (start end from to : Option Point) → Type 0
KeepsGivenEnds (Some start) (Some end) from to = (from ≡ Some start) × (to ≡ Some end)
KeepsGivenEnds (Some start) None from to = (from ≡ Some start) × (to ≡ Some start)
KeepsGivenEnds None (Some end) from to = (from ≡ Some end) × (to ≡ Some end)
KeepsGivenEnds None None from to = from ≡ to

-- One thread over the given lines: its passes follow these lines alone and each line at least once,
-- they lead from point to point, and the thread keeps the given start and end.
pub record IsThreadOver (d : DrawingValue) (lines : List ℕ) (walk : List Pass) : Type 0 where
  pub from : Option Point
  pub to : Option Point
  pub drawn : All (λ (pass : Pass). Contains lines pass.line) walk
  pub covered : All (Contains (map (λ (pass : Pass). pass.line) walk)) lines
  pub leads : Leads d from walk to
  pub ends : KeepsGivenEnds (given_point d lines d.starts) (given_point d lines d.ends) from to

-- The fitting walks over the graph of a piece are the threads over its lines.
abbrev pub FittingWalksAreThreads : Type 0
FittingWalksAreThreads = (d : DrawingValue) (lines : List ℕ) (walk : List Pass)
    → KeepsDrawingLimits d
    → All (λ line. line < length d.lines) lines → IsValidPiece (piece_graph d lines)
    → (is_fitting_walk (piece_graph d lines) walk ≡ true) ↔ IsThreadOver d lines walk

-- The junctions that the graph of a piece has as start and end are those at the given points.
abbrev pub GivenPointsAreJunctions : Type 0
GivenPointsAreJunctions = (d : DrawingValue) (lines : List ℕ) (spots : List Spot)
    → first_junction_among (block_of d (first_line lines)) (junctions_of d lines) spots
    ≡ option_map (λ p. junction_number (junctions_of d lines) (Some p)) (given_point d lines spots)

-- The graphs of the pieces of a drawing are valid.
abbrev pub PiecesAreValid : Type 0
PiecesAreValid = (d : DrawingValue) (pieces : List (List ℕ)) → KeepsDrawingLimits d
    → ArePieces d pieces
    → All (λ lines. IsValidPiece (piece_graph d lines)) pieces
