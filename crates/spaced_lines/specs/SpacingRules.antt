-- Rules of spacing: which points of a line may be left out between two that are kept. One stitch
-- leads from the one to the other, within the rule's lengths, and comes near all points between.
-- Distances are in tenths of a millimetre.
use Rattle.std.specs.Prelude.{ℕ, ◌/◌, ◌*◌, max, not, Bool, true, false, ◌&&◌, nat_le, List, [], ◌∷◌, length, Option, Some, None}
use Rattle.std.specs.List.{list_all}
use Rattle.design_model.specs.Lengths.{square_of}
use Rattle.design_model.specs.Points.{is_same_point, move_between, move_size}
use Rattle.design_model.specs.declared.point.Point.{Point}
use Rattle.drawing_review.specs.Frames.{grid_point}
use Rattle.drawing_review.specs.declared.segment.LineSegment.{LineSegment}
use Rattle.drawing_review.specs.Meetings.{is_near}
use Rattle.drawing_review.specs.Segments.{drawn_segment}
use Rattle.spaced_lines.specs.declared.spacing_rule.SpacingLimits.{SpacingLimits}
use Rattle.spaced_lines.specs.declared.spacing_rule.SpacingRule.{SpacingRule}
use Rattle.spaced_lines.specs.declared.spacing_rule.TheConstants.{MAX_LEFT_OUT}

-- The distance between two points, on the larger axis.
abbrev pub distance_between : Point → Point → ℕ
distance_between p q = move_size (move_between p q)

-- The segment from a to b, by itself.
abbrev pub segment_between : Point → Point → LineSegment
segment_between a b = drawn_segment
    (record { block = 0; line = 0; number = 0; is_first = false; is_last = false }) a b

-- How far a point that is left out may be from its stitch where nothing is given: a tenth of a
-- step, and at least 1.
abbrev pub leeway_of : ℕ → ℕ
leeway_of step = max (step / 10) 1

-- The square of the longest straight length. Where none is given, it is that of a step on both
-- axes.
abbrev pub square_limit : ℕ → Option ℕ → ℕ
square_limit step (Some longest) = longest * longest
square_limit step None = 2 * (step * step)

-- The leeway, where one is given or not.
abbrev pub leeway_limit : ℕ → Option ℕ → ℕ
leeway_limit step (Some leeway) = leeway
leeway_limit step None = leeway_of step

-- The rule of what is given, for a drawing with the given longest step.
abbrev pub rule_of : SpacingLimits → ℕ → SpacingRule
rule_of limits step = record {
  step = step;
  square = square_limit step limits.length;
  leeway = leeway_limit step limits.leeway;
}

-- The segment from a to b comes near points: it is within the leeway of each.
abbrev pub comes_near_all : ℕ → (a b : Point) → List Point → Bool
comes_near_all leeway a b points =
    list_all (λ p. is_near leeway (grid_point p) (segment_between a b)) points

-- One stitch from a to b stands for points: it has a length, which the rule allows on the larger
-- axis and straight, and it comes near them.
abbrev pub is_stitch_for : SpacingRule → (a b : Point) → List Point → Bool
is_stitch_for rule a b points = not (is_same_point a b)
    && (nat_le (distance_between a b) rule.step
    && (nat_le (square_of a b) rule.square && comes_near_all rule.leeway a b points))

-- None of the points stays.
abbrev pub does_none_stay : (Point → Bool) → List Point → Bool
does_none_stay stays points = list_all (λ p. not (stays p)) points

-- Points may be left out between the kept points a and b: none of them stays, they are not too
-- many, and one stitch stands for them. Between neighbours no point is left out.
abbrev pub may_leave_out : (Point → Bool) → SpacingRule → (a : Point) → List Point → (b : Point)
    → Bool
may_leave_out stays rule a [] b = true
may_leave_out stays rule a (p ∷ more) b = does_none_stay stays (p ∷ more)
    && (nat_le (length (p ∷ more)) MAX_LEFT_OUT && is_stitch_for rule a b (p ∷ more))
