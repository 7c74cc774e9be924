-- Stops of an order: where the needle enters and leaves each place, and how long it travels to it.
-- No public clause cites this file.
use Rattle.std.specs.Prelude.{◌≡◌, ℕ, ◌+◌, ◌<◌, List, [], ◌∷◌, Option, Some, None, All, length, map}
use Rattle.design_model.specs.declared.point.Point.{Point}
use Rattle.design_model.specs.Lengths.{length_of}
use Rattle.near_pieces.specs.declared.stop.Reached.{Reached}
use Rattle.near_pieces.specs.declared.stop.Stop.{Stop}
use Rattle.near_pieces.specs.declared.visit.Visit.{Visit}
use Rattle.near_pieces.specs.Visits.{entry_from, exit_from, visit_at, way_to}

-- The places of stops, by their indexes.
abbrev pub places : List Stop → List ℕ
places stops = map (λ (s : Stop). s.place) stops

-- The stop at the place with an index, from a point and after a travel.
abbrev pub stop_at : List Visit → Option Point → (travel i : ℕ) → Stop
stop_at visits from travel i = record {
  place = i;
  from = from;
  enters = entry_from from (visit_at visits i);
  leaves = exit_from from (visit_at visits i);
  way = way_to from (visit_at visits i);
  travel = travel + way_to from (visit_at visits i);
}

-- The stops of an order, from a point and after a travel.
abbrev pub stops_in : List Visit → Option Point → ℕ → List ℕ → List Stop
stops_in visits from travel [] = []
stops_in visits from travel (i ∷ rest) = stop_at visits from travel i
    ∷ stops_in visits (Some (exit_from from (visit_at visits i)))
    (travel + way_to from (visit_at visits i)) rest

-- Where the needle is after the places with the given indexes.
abbrev pub needle_through : List Visit → Option Point → List ℕ → Option Point
needle_through visits from [] = from
needle_through visits from (i ∷ rest) =
    needle_through visits (Some (exit_from from (visit_at visits i))) rest

-- The length of the straight way from a point, if there is one.
abbrev pub way_from : Option Point → Point → ℕ
way_from None q = 0
way_from (Some p) q = length_of p q

-- Where the needle is after a stop, and the travel up to there.
abbrev pub after_stop : Stop → Reached
after_stop s = record { from = Some s.leaves; travel = s.travel }

-- Where the needle is after the last one of stops, if there is one, and the travel up to there.
abbrev pub last_reached : Reached → List Stop → Reached
last_reached at [] = at
last_reached at (s ∷ rest) = last_reached (after_stop s) rest

-- Stops that follow each other in an order of places.
pub record IsPart (visits : List Visit) (stops : List Stop) : Type 0 where
  pub from : Option Point
  pub travel : ℕ
  pub order : List ℕ
  pub is : stops ≡ stops_in visits from travel order
  pub inside : All (λ i. i < length visits) order

-- A stop is one at its place from its point.
abbrev pub IsKnown : List Visit → Stop → Type 0
IsKnown visits s = (travel : ℕ) × (s ≡ stop_at visits s.from travel s.place)
