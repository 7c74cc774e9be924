-- The needle points of a line follow the line. Costs count steps.
use Rattle.std.specs.Prelude.{◌≡◌, ℕ, ◌+◌, ◌-◌, ◌<◌, ◌≤◌, List, [], ◌∷◌, length, All}
use Rattle.design_model.specs.declared.point.Point.{Point}
use Rattle.step_splitter.specs.Chains.{IsNeedlePoint, AreCloseAfter}
use Rattle.line_graph.specs.declared.limits.TheConstants.{MAX_COST}
use Rattle.line_graph.specs.Drawings.{DrawingValue, HasNoRepeat, KeepsDrawingLimits, first_point, last_point, points_of}
use Rattle.line_graph.specs.Needles.{needle_points}

-- The needle points of a line, at the drawing's longest step.
abbrev pub needles_of_line : DrawingValue → ℕ → List Point
needles_of_line d line = needle_points d.step (points_of d line)

-- The cost of a line: the number of its needle points less one.
abbrev pub cost_of_line : DrawingValue → ℕ → ℕ
cost_of_line d line = length (needles_of_line d line) - 1

-- Each point of a list lies within the limit of the one before it, on each axis.
abbrev pub AreClose : ℕ → List Point → Type 0
AreClose limit [] = Unit {0}
AreClose limit (p ∷ rest) = AreCloseAfter limit p rest

-- Needle points lead along a line: from its first point to its last, each within the step of the
-- one before and different from it.
pub record LeadAlong (step : ℕ) (line points : List Point) : Type 0 where
  pub first : first_point points ≡ first_point line
  pub last : last_point points ≡ last_point line
  pub in_range : All IsNeedlePoint points
  pub close : AreClose step points
  pub moving : HasNoRepeat points

-- Needle points of a line of a drawing: one more than the line costs, and they lead along it.
pub record AreNeedlesOf (d : DrawingValue) (line : ℕ) (points : List Point) : Type 0 where
  pub count : length points ≡ cost_of_line d line + 1
  pub few : cost_of_line d line ≤ MAX_COST
  pub along : LeadAlong d.step (points_of d line) points

-- The needle points of each line of a drawing lead along that line.
abbrev pub NeedlesLeadAlong : DrawingValue → Type 0
NeedlesLeadAlong d = (line : ℕ) → KeepsDrawingLimits d → line < length d.lines
    → AreNeedlesOf d line (needles_of_line d line)
