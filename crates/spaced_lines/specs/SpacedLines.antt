-- Spaced lines: the points that a line keeps are the best choice of its points, with the fewest
-- stitches, and of those with as few one whose stitches are the most even. Junctions stay.
use Rattle.std.specs.Prelude.{ℕ, Bool, List, map}
use Rattle.design_model.specs.declared.point.Point.{Point}
use Rattle.line_sections.specs.declared.spot.Spot.{Spot}
use Rattle.line_sections.specs.Lines.{LineValue}
use Rattle.line_sections.specs.Sections.{all_sections}
use Rattle.line_graph.specs.WalkEnds.{is_junction}
use Rattle.spaced_lines.specs.BestChoices.{bests_of, kept_by}
use Rattle.spaced_lines.specs.declared.spacing_rule.SpacingRule.{SpacingRule}

-- The points that a line keeps, where those that pass the test stay.
abbrev pub spaced_points : (Point → Bool) → SpacingRule → List Point → List Point
spaced_points stays rule points = kept_by 0 points (bests_of stays rule points)

-- A point of a block is one of the given spots.
abbrev pub is_spot_of : (Spot → Bool) → ℕ → Point → Bool
is_spot_of spots block p = spots (record { block = block; at = p })

-- A line without the points that are left out, where the given spots stay.
abbrev pub spaced_line : (Spot → Bool) → SpacingRule → LineValue → LineValue
spaced_line spots rule line =
    record line { points = spaced_points (is_spot_of spots line.block) rule line.points }

-- The lines of a drawing without the points that are left out. Its junctions stay, which are the
-- ends of the sections of the lines.
abbrev pub spaced_lines : SpacingRule → List LineValue → List LineValue
spaced_lines rule lines = map (spaced_line (is_junction (all_sections lines)) rule) lines
