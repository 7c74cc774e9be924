-- The points of lines at each spot, as a map has them. No public clause cites this file.
use Rattle.std.specs.Prelude.{◌≡◌, List, [], ◌∷◌, ◌++◌, Option, unwrap_or, if◌then◌else◌}
use Rattle.line_sections.specs.declared.spot.Spot.{Spot}
use Rattle.line_sections.specs.Spots.{is_same_spot}
use Rattle.meeting_rounds.specs.declared.tracked_lines.TrackedPoint.{TrackedPoint}

-- The points of each spot, if it has any.
abbrev pub KeptPoints : Type 0
KeptPoints = Spot → Option (List TrackedPoint)

-- The points of a spot.
abbrev pub points_at_spot : KeptPoints → Spot → List TrackedPoint
points_at_spot placed s = unwrap_or (placed s) []

-- A step adds a point to a spot, after the points that it has.
abbrev pub AddsPoint : Spot → TrackedPoint → KeptPoints → KeptPoints → Type 0
AddsPoint at p old new = (s : Spot)
    → points_at_spot new s ≡ points_at_spot old s ++ (if is_same_spot at s then p ∷ [] else [])
