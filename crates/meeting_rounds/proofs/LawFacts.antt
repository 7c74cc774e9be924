-- What the laws of rounds state of small drawings, and what they exclude; and steps of maps, in tenths of a millimetre.
use Rattle.std.proofs.Common.{◌≡◌, ℕ, ◌+◌, ◌*◌, pos, Bool, true, false, List, [], ◌∷◌, ◌++◌, Option, Some, None, refl}
use Rattle.std.specs.BTreeSet.{BTreeSet, insert_key}
use Rattle.std.specs.List.{list_all}
use Rattle.std.specs.Ordering.{nat_cmp}
use Rattle.design_model.specs.declared.point.Point.{Point}
use Rattle.line_meetings.specs.Telling.{told}
use Rattle.line_sections.specs.declared.spot.Spot.{Spot}
use Rattle.line_sections.specs.Lines.{LineValue}
use Rattle.line_sections.specs.Sections.{lines_through}
use Rattle.meeting_rounds.specs.NearLines.{LinesStayNear, StaysNear, is_near_drawn}
use Rattle.meeting_rounds.specs.PlacedPoints.{AddsPoint, KeptPoints, points_at_spot}
use Rattle.meeting_rounds.specs.RoundLaws.{LinesAtRestStay, NearLinesHaveNearPoints, RoundsKeepLinesNear, UnworkedLinesAreDrawn, unworked}
use Rattle.meeting_rounds.specs.Rounds.{settled_lines}
use Rattle.meeting_rounds.specs.SegmentPlaces.{AddsPlace, KeptPlaces, numbers_at, numbers_of}
use Rattle.meeting_rounds.specs.TrackedLines.{lines_as_worked, tracked_point}
use Rattle.meeting_rounds.specs.declared.puts.Put.{Put}
use Rattle.meeting_rounds.specs.declared.rounds.WorkedLines.{WorkedLines}
use Rattle.meeting_rounds.specs.declared.segment_places.SegmentKey.{SegmentKey}
use Rattle.meeting_rounds.specs.declared.tracked_lines.TrackedPoint.{TrackedPoint}

abbrev at : ℕ → ℕ → Point
at x y = record { x = pos x; y = pos y }

abbrev spot : ℕ → ℕ → Spot
spot block x = record { block = block; at = at x 0 }

-- a line of block 3 before any round, with a start and an end
pub known_unworked : unworked (lines_through 3 ((at 0 0 ∷ at 4 0 ∷ []) ∷ [])) (spot 3 0 ∷ []) (spot 3 4 ∷ []) ≡ record {
  lines = record { block = 3; points = tracked_point (at 0 0) (at 4 0) ∷ tracked_point (at 4 0) (at 4 0) ∷ [] } ∷ [];
  starts = spot 3 0 ∷ [];
  ends = spot 3 4 ∷ [];
}
known_unworked = refl

-- a line through any two points is drawn as it was
pub known_drawn : UnworkedLinesAreDrawn → (p q : Point)
    → lines_as_worked (record { block = 3; points = tracked_point p q ∷ tracked_point q q ∷ [] } ∷ [])
    ≡ lines_through 3 ((p ∷ q ∷ []) ∷ [])
known_drawn law p q = law (lines_through 3 ((p ∷ q ∷ []) ∷ []))

-- two lines that cross stay where crossings aren't listed
abbrev crossed : List LineValue
crossed = lines_through 0 ((at 0 0 ∷ at 10 5 ∷ []) ∷ (at 3 9 ∷ at 4 0 ∷ []) ∷ [])

pub known_at_rest : LinesAtRestStay → (starts ends : List Spot)
    → settled_lines false 0 (unworked crossed starts ends) ≡ unworked crossed starts ends
unfolding told
known_at_rest law starts ends = law false 0 crossed starts ends refl

-- no line comes from none; each line stays in its block, and near itself by these distances
pub known_none : RoundsKeepLinesNear → (lists : Bool) (gap : ℕ) (starts ends : List Spot)
    → lines_as_worked (settled_lines lists gap (unworked [] starts ends)).lines ≡ []
known_none law lists gap starts ends = law lists gap [] starts ends

pub known_near_rounds : RoundsKeepLinesNear → (lists : Bool) (gap : ℕ) (lines : List LineValue) (starts ends : List Spot)
    → LinesStayNear gap lines (lines_as_worked (settled_lines lists gap (unworked lines starts ends)).lines)
known_near_rounds law = law

pub known_near_lines : (line after : LineValue) (more : List LineValue) → LinesStayNear 3 (line ∷ []) (after ∷ more)
    → (after.block ≡ line.block) × StaysNear 7 4 None line.points after.points × (more ≡ [])
known_near_lines line after more near = near

pub known_no_line_less : (line : LineValue) → LinesStayNear 3 (line ∷ []) [] → ⊥
known_no_line_less line near = near

-- each point of lines that stay near by these distances is near its line as drawn
pub known_near_points : NearLinesHaveNearPoints → (drawn after : List Point) → StaysNear 7 4 None drawn after
    → list_all (is_near_drawn 3 drawn) after ≡ true
known_near_points law drawn after = law 3 drawn after

-- the numbers of a segment, or none
pub known_numbers_of : (set : BTreeSet ℕ) (s : SegmentKey) → (numbers_of None ≡ []) × (numbers_of (Some set) ≡ set.keys)
    × (numbers_at (λ t. Some set) s ≡ set.keys)
known_numbers_of set s = (refl, refl, refl)

-- a put adds its number to its own segment, by line and by index
pub known_place_step : (old new : KeptPlaces) → AddsPlace (record { line = 2; segment = 3; place = 7 }) old new
    → (numbers_at new (record { line = 2; segment = 3 }) ≡ insert_key nat_cmp (numbers_at old (record { line = 2; segment = 3 })) 7)
    × (numbers_at new (record { line = 2; segment = 4 }) ≡ numbers_at old (record { line = 2; segment = 4 }))
    × (numbers_at new (record { line = 1; segment = 3 }) ≡ numbers_at old (record { line = 1; segment = 3 }))
known_place_step old new adds =
    (adds (record { line = 2; segment = 3 }), adds (record { line = 2; segment = 4 }), adds (record { line = 1; segment = 3 }))

-- the points of a spot, or none
pub known_points_at : (p : TrackedPoint) (s : Spot) → (points_at_spot (λ t. None) s ≡ [])
    × (points_at_spot (λ t. Some (p ∷ [])) s ≡ p ∷ [])
known_points_at p s = (refl, refl)

-- a point is added to its own spot, after those that it has
pub known_point_step : (p : TrackedPoint) (old new : KeptPoints) → AddsPoint (spot 1 4) p old new
    → (points_at_spot new (spot 1 4) ≡ points_at_spot old (spot 1 4) ++ p ∷ [])
    × (points_at_spot new (spot 0 4) ≡ points_at_spot old (spot 0 4) ++ [])
    × (points_at_spot new (spot 1 5) ≡ points_at_spot old (spot 1 5) ++ [])
known_point_step p old new adds = (adds (spot 1 4), adds (spot 0 4), adds (spot 1 5))
