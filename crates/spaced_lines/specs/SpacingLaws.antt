-- Laws of spaced lines: no choice of points is better, which points stay, and how many steps are
-- saved. Costs count steps.
use Rattle.std.specs.Prelude.{◌≡◌, ℕ, ◌+◌, ◌≤◌, Bool, true, List, length, map, filter, reverse, All}
use Rattle.design_model.specs.declared.point.Point.{Point}
use Rattle.line_graph.specs.Drawings.{DrawingValue, IsLine, endpoints}
use Rattle.line_graph.specs.Needles.{steps_of_line}
use Rattle.line_graph.specs.Pieces.{ArePieces}
use Rattle.line_graph.specs.WalkEnds.{end_spots, is_junction}
use Rattle.line_sections.specs.Lines.{LineValue}
use Rattle.line_sections.specs.Sections.{all_sections, inner_points, is_shared_point}
use Rattle.spaced_lines.specs.Choices.{IsBestChoice, square_sum, stitch_count}
use Rattle.spaced_lines.specs.SpacedLines.{is_spot_of, spaced_lines, spaced_points}
use Rattle.spaced_lines.specs.declared.spacing_rule.SpacingRule.{SpacingRule}

-- The points that a line keeps are a best choice of its points.
abbrev pub KeptPointsAreBest : Type 0
KeptPointsAreBest = (stays : Point → Bool) (rule : SpacingRule) (points : List Point)
    → IsBestChoice stays rule (spaced_points stays rule points) points

-- A line that is listed from its end keeps as many points, with the same sum of squares.
abbrev pub ReversedLinesAreAsGood : Type 0
ReversedLinesAreAsGood = (stays : Point → Bool) (rule : SpacingRule) (points : List Point)
    → let there = spaced_points stays rule points in
    let back = spaced_points stays rule (reverse points) in
    (stitch_count back ≡ stitch_count there) × (square_sum back ≡ square_sum there)

-- A spaced line lists the points that pass the test as often as the line, and in their order.
abbrev pub TestedPointsStay : Type 0
TestedPointsStay = (stays : Point → Bool) (rule : SpacingRule) (points : List Point)
    → filter stays (spaced_points stays rule points) ≡ filter stays points

-- A spaced line has the ends of the line.
abbrev pub EndsOfLinesStay : Type 0
EndsOfLinesStay = (stays : Point → Bool) (rule : SpacingRule) (points : List Point)
    → endpoints (spaced_points stays rule points) ≡ endpoints points

-- A line that can be sewn is one after it is spaced.
abbrev pub SpacedLinesAreLines : Type 0
SpacedLinesAreLines = (stays : Point → Bool) (rule : SpacingRule) (points : List Point)
    → IsLine points
    → IsLine (spaced_points stays rule points)

-- Each point that is left out saves a step at least.
abbrev pub EachPointSavesAStep : Type 0
EachPointSavesAStep = (stays : Point → Bool) (rule : SpacingRule) (points : List Point)
    → 1 ≤ rule.step
    → IsLine points → let kept = spaced_points stays rule points in
    steps_of_line rule.step kept + length points ≤ steps_of_line rule.step points + length kept

-- A point inside a line that its block lists again is a junction.
abbrev pub SharedPointsAreJunctions : Type 0
SharedPointsAreJunctions = (lines : List LineValue) → All (λ line. All (λ p.
    is_shared_point lines line.block p ≡ true
    → is_spot_of (is_junction (all_sections lines)) line.block p ≡ true)
    (inner_points line.points)) lines

-- The sections of spaced lines have the ends of the sections of the lines, one for one.
abbrev pub SectionsKeepEnds : Type 0
SectionsKeepEnds = (rule : SpacingRule) (lines : List LineValue)
    → map end_spots (all_sections (spaced_lines rule lines)) ≡ map end_spots (all_sections lines)

-- The pieces of the sections of a drawing are those of its spaced lines.
abbrev pub PiecesStay : Type 0
PiecesStay = (rule : SpacingRule) (d : DrawingValue) (pieces : List (List ℕ))
    → ArePieces (record d { lines = all_sections d.lines }) pieces
    → ArePieces (record d { lines = all_sections (spaced_lines rule d.lines) }) pieces
