-- What the spacing of a drawing doesn't refuse: lines within the limits of a drawing, and starts
-- and ends that the joined drawing takes.
use Rattle.std.specs.Prelude.{◌≡◌, List, [], Ok}
use Rattle.drawing_edits.specs.RedrawnDrawings.{with_starts_and_ends}
use Rattle.line_graph.specs.Drawings.{DrawingValue, KeepsDrawingLimits}
use Rattle.line_graph.specs.GrowingDrawings.{and_then}
use Rattle.line_graph.specs.JoinedDrawings.{joined_drawing}
use Rattle.line_sections.specs.declared.spot.Spot.{Spot}
use Rattle.line_sections.specs.Sections.{all_sections}
use Rattle.spaced_lines.specs.declared.spacing_rule.SpacingLimits.{SpacingLimits}
use Rattle.spaced_lines.specs.SpacedDrawings.{space_of, with_lines_spaced}
use Rattle.spaced_lines.specs.SpacedLines.{spaced_lines}
use Rattle.spaced_lines.specs.SpacingRules.{rule_of}

-- Spaced lines of a drawing are within the limits of a drawing.
abbrev pub SpacedLinesKeepLimits : Type 0
SpacedLinesKeepLimits = (limits : SpacingLimits) (d : DrawingValue) → KeepsDrawingLimits d
    → KeepsDrawingLimits (with_lines_spaced limits d)

-- Where lines as they are drawn can be joined and take starts and ends, they can be spaced with
-- these. The joined drawing then has the sections of the spaced lines.
abbrev pub SpacingRefusesNone : Type 0
SpacingRefusesNone = (limits : SpacingLimits) (d joined : DrawingValue) (starts ends : List Spot)
    → KeepsDrawingLimits d
    → d.starts ≡ [] → d.ends ≡ []
    → and_then (joined_drawing d) (λ whole. with_starts_and_ends whole starts ends) ≡ Ok joined
    → space_of limits d starts ends ≡ Ok (record {
      drawn = with_lines_spaced limits d;
      joined = record joined {
        lines = all_sections (spaced_lines
            (rule_of limits d.step) d.lines);
      };
    })
