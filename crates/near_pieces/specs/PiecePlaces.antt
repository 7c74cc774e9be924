-- Pieces as places to be visited. A piece with a start and an end is entered and left there; one
-- with one of them alone is entered and left there; any other at one of its junctions.
use Rattle.std.specs.Prelude.{ℕ, List, [], ◌∷◌, Option, Some, None, drop, option_map, slice_get, unwrap_or}
use Rattle.design_model.specs.declared.point.Point.{Point}
use Rattle.design_model.specs.Points.{origin}
use Rattle.line_graph.specs.declared.piece.Piece.{Piece}
use Rattle.line_graph.specs.PieceGraphs.{given_end, given_start}
use Rattle.line_graph.specs.PiecesOfDrawings.{graph_of}
use Rattle.line_sections.specs.declared.spot.Spot.{Spot}
use Rattle.near_pieces.specs.declared.visit.Visit.{Visit}
use Rattle.near_pieces.specs.Visits.{entry_from, exit_from}

-- The point of a junction.
abbrev pub point_numbered : List Point → ℕ → Point
point_numbered junctions j = unwrap_or (slice_get junctions j) origin

-- The place of a piece with the given junctions, start and end.
abbrev pub place_between : List Point → (start end : Option ℕ) → Visit
place_between junctions (Some start) end = record {
  first = point_numbered junctions start;
  others = [];
  leaves = option_map (point_numbered junctions) end;
}
place_between junctions None end = record {
  first = point_numbered junctions 0;
  others = drop 1 junctions;
  leaves = None;
}

-- The place of a piece.
abbrev pub place_of : Piece → Visit
place_of p = place_between p.junctions (given_start (graph_of p)) (given_end (graph_of p))

-- Where the needle is after a piece, if there is one.
abbrev pub needle_after : Option Point → Option Piece → Option Point
needle_after from None = from
needle_after from (Some p) = Some (exit_from from (place_of p))

-- The start of a piece that has one, none for a piece with an end alone, and else the point where
-- the piece is entered.
abbrev pub starts_between : ℕ → List Point → (start end : Option ℕ) → (at : Point) → List Spot
starts_between block junctions (Some start) end at =
    record { block = block; at = point_numbered junctions start } ∷ []
starts_between block junctions None (Some end) at = []
starts_between block junctions None None at = record { block = block; at = at } ∷ []

-- The start of a piece, if there is one, that is sewn after a point.
abbrev pub starts_of : Option Point → Option Piece → List Spot
starts_of from None = []
starts_of from (Some p) =
    starts_between p.block p.junctions p.start p.end (entry_from from (place_of p))
