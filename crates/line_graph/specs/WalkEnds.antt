-- Starts and ends: junctions where the walk over a piece must start, and where it must end. A
-- drawing that has a start or an end is joined.
use Rattle.std.specs.Prelude.{◌≡◌, ◌==◌, ◌&&◌, Bool, true, false, not, ◌⊎◌, List, [], ◌∷◌, ◌++◌, map, Result, Ok, Err, All, AllPairs, if◌then◌else◌}
use Rattle.std.specs.List.{list_any}
use Rattle.design_model.specs.Points.{is_same_point}
use Rattle.line_sections.specs.declared.spot.Spot.{Spot}
use Rattle.line_sections.specs.Lines.{LineValue}
use Rattle.line_sections.specs.Spots.{is_same_spot}
use Rattle.line_graph.specs.declared.draw_kind.DrawKind.{DrawKind}
use Rattle.line_graph.specs.declared.draw_kind.DrawKind.TheVariants as kind
use Rattle.line_graph.specs.Drawings.{DrawingValue, KeepsDrawingLimits, endpoints}
use Rattle.line_graph.specs.GrowingDrawings.{and_then}
use Rattle.line_graph.specs.JoinedDrawings.{is_joined}

-- A line of the spot's block has an end at the spot. A spot is a block and a point in it.
abbrev pub has_end_at_spot : Spot → LineValue → Bool
has_end_at_spot spot line = line.block == spot.block && list_any (is_same_point spot.at)
    (endpoints line.points)

-- A spot is a junction: some line has an end there.
abbrev pub is_junction : List LineValue → Spot → Bool
is_junction lines spot = list_any (has_end_at_spot spot) lines

-- The spots at the two ends of a line.
abbrev pub end_spots : LineValue → List Spot
end_spots line = map (λ p. record { block = line.block; at = p }) (endpoints line.points)

-- The representative of a spot after a union of two classes, as in union-find. The class of the
-- first spot p gets the representative of the second spot q. The function `stands` gives the
-- representatives before the union.
abbrev pub merged_representative : List Spot → (Spot → Spot) → Spot → Spot
merged_representative (p ∷ q ∷ rest) stands spot =
    if is_same_spot (stands spot) (stands p) then stands q else stands spot
merged_representative few stands spot = stands spot

-- The representative of a spot among the spots that lines connect. Each spot represents itself at
-- first, and each line unites the classes of its two ends.
abbrev pub representative : List LineValue → Spot → Spot
representative [] spot = spot
representative (line ∷ rest) spot = merged_representative (end_spots line) (representative rest)
    spot

-- Two spots are connected by lines: they have the same representative.
abbrev pub are_connected_spots : List LineValue → Spot → Spot → Bool
are_connected_spots lines a b = is_same_spot (representative lines a) (representative lines b)

-- The given spots and one more, or the fault of that spot. `NoJunction` means that it is no
-- junction, `EndRepeated` that lines connect it to a spot of the list.
abbrev pub spot_added : List LineValue → List Spot → Spot → Result (List Spot) DrawKind
spot_added lines spots spot =
    if not (is_junction lines spot) then Err kind.NoJunction
    else (if list_any (λ one. are_connected_spots lines one spot) spots then Err kind.EndRepeated
    else Ok (spots ++ spot ∷ []))

-- The drawing with one more start, or the fault of that start.
abbrev pub start_added : DrawingValue → Spot → Result DrawingValue DrawKind
start_added d spot =
    and_then (spot_added d.lines d.starts spot) (λ starts. Ok (record d { starts = starts }))

-- The drawing with one more end, or the fault of that end.
abbrev pub end_added : DrawingValue → Spot → Result DrawingValue DrawKind
end_added d spot =
    and_then (spot_added d.lines d.ends spot) (λ ends. Ok (record d { ends = ends }))

-- The drawing with one more start where the flag is true, else with one more end, or the fault.
abbrev pub walk_end_added : Bool → DrawingValue → Spot → Result DrawingValue DrawKind
walk_end_added true d spot = start_added d spot
walk_end_added false d spot = end_added d spot

-- Junctions in different pieces: lines connect no two of them.
pub record AreInDifferentPieces (lines : List LineValue) (spots : List Spot) : Type 0 where
  pub there : All (λ spot. is_junction lines spot ≡ true) spots
  pub apart : AllPairs (λ a b. are_connected_spots lines a b ≡ false) spots

-- A drawing without starts and ends.
pub record HasNoEnds (d : DrawingValue) : Type 0 where
  pub starts : d.starts ≡ []
  pub ends : d.ends ≡ []

-- The starts and ends of a drawing are valid: each piece has at most one start and one end, and a
-- drawing that has any is joined.
pub record HasValidEnds (d : DrawingValue) : Type 0 where
  pub starts : AreInDifferentPieces d.lines d.starts
  pub ends : AreInDifferentPieces d.lines d.ends
  pub joined : HasNoEnds d ⊎ (is_joined d ≡ true)

-- A valid drawing: within the limits of a drawing, with valid starts and ends.
pub record IsValidDrawing (d : DrawingValue) : Type 0 where
  pub limits : KeepsDrawingLimits d
  pub ends : HasValidEnds d
