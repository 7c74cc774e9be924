-- The travel between pieces: the straight way from where one ends to where the next begins. Lengths
-- are in thousandths of a millimetre.
use Rattle.std.specs.Prelude.{ℕ, Option, Some, None, slice_get, unwrap_or}
use Rattle.design_model.specs.declared.point.Point.{Point}
use Rattle.line_graph.specs.PieceGraphs.{PieceValue, given_end, given_start}
use Rattle.design_model.specs.Lengths.{length_of}

-- The point of a junction of a piece. It is the first junction where none is given: a piece without
-- a start and an end begins at the first point of its first line, and ends there.
abbrev pub point_of_end : PieceValue → Option ℕ → Option Point
point_of_end p junction = slice_get p.junctions (unwrap_or junction 0)

-- The length of the way from one point to another, or 0 where one is missing.
abbrev pub way_between : Option Point → Option Point → ℕ
way_between None to = 0
way_between (Some from) None = 0
way_between (Some from) (Some to) = length_of from to

-- The travel from the end of a piece to the start of the next.
abbrev pub travel_between : (piece next : PieceValue) → ℕ
travel_between piece next =
    way_between (point_of_end piece (given_end piece)) (point_of_end next (given_start next))
