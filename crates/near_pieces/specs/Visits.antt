-- Travel through places that are visited one after another. Each is entered at the nearest of its
-- points. Lengths of ways are in thousandths of a millimetre.
use Rattle.std.specs.Prelude.{ℕ, ◌+◌, List, [], ◌∷◌, Option, Some, None, nat_lt, slice_get, unwrap_or, if◌then◌else◌}
use Rattle.design_model.specs.declared.point.Point.{Point}
use Rattle.design_model.specs.Lengths.{length_of, square_of}
use Rattle.design_model.specs.Points.{origin}
use Rattle.near_pieces.specs.declared.visit.Visit.{Visit}

-- The nearer of two points to a point, the first if both are as near.
abbrev pub nearer_of : (p a b : Point) → Point
nearer_of p a b = if nat_lt (square_of p b) (square_of p a) then b else a

-- The nearest to a point of a point and further ones, the first of several.
abbrev pub nearest_of : (p best : Point) → List Point → Point
nearest_of p best [] = best
nearest_of p best (q ∷ rest) = nearest_of p (nearer_of p best q) rest

-- The point where a place is entered: the nearest one, or the first if nothing was visited before.
abbrev pub entry_from : Option Point → Visit → Point
entry_from None v = v.first
entry_from (Some p) v = nearest_of p v.first v.others

-- The point where a place is left: where it was entered, if no other is given.
abbrev pub exit_from : Option Point → Visit → Point
exit_from from v = unwrap_or v.leaves (entry_from from v)

-- The length of the straight way to a place. To the first place there is none.
abbrev pub way_to : Option Point → Visit → ℕ
way_to None v = 0
way_to (Some p) v = length_of p (entry_from (Some p) v)

-- A place at the origin.
abbrev pub at_origin : Visit
at_origin = record { first = origin; others = []; leaves = None }

-- The place with an index, which counts from 0.
abbrev pub visit_at : List Visit → ℕ → Visit
visit_at visits i = unwrap_or (slice_get visits i) at_origin

-- The travel from a point, if there is one, through the places with the given indexes, in order.
abbrev pub travel_in : List Visit → Option Point → List ℕ → ℕ
travel_in visits from [] = 0
travel_in visits from (i ∷ rest) = way_to from (visit_at visits i)
    + travel_in visits (Some (exit_from from (visit_at visits i))) rest
