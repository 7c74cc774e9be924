-- Choices of the points that a line keeps, and which of them are best. Squares of lengths are in
-- square tenths of a millimetre.
use Rattle.std.specs.Prelude.{ℕ, ◌≡◌, ◌+◌, ◌≤◌, Bool, true, List, [], ◌∷◌, ◌++◌, length}
use Rattle.design_model.specs.Lengths.{square_of}
use Rattle.design_model.specs.declared.point.Point.{Point}
use Rattle.spaced_lines.specs.SpacingRules.{may_leave_out}
use Rattle.spaced_lines.specs.declared.spacing_rule.SpacingRule.{SpacingRule}

-- The points of a line from the kept point a on: those left out before the next kept point b, and
-- the points after them.
pub record IsStretch (stays : Point
    → Bool) (rule : SpacingRule) (a b : Point) (points after : List Point) : Type 0 where
  pub out : List Point
  pub parts : points ≡ a ∷ (out ++ after)
  pub allowed : may_leave_out stays rule a out b ≡ true

-- Kept points are a choice of the points of a line: they come in order, from its first to its last,
-- and the points between each two of them may be left out.
abbrev pub IsChoice : (Point → Bool) → SpacingRule → (kept points : List Point) → Type 0
IsChoice stays rule [] points = points ≡ []
IsChoice stays rule (a ∷ []) points = points ≡ a ∷ []
IsChoice stays rule (a ∷ b ∷ rest) points =
    (after : List Point) × IsStretch stays rule a b points after
    × IsChoice stays rule (b ∷ rest) after

-- The number of stitches between kept points: one from each to the next.
abbrev pub stitch_count : List Point → ℕ
stitch_count [] = 0
stitch_count (a ∷ rest) = length rest

-- The sum of the squares of the lengths of the stitches between kept points.
abbrev pub square_sum : List Point → ℕ
square_sum [] = 0
square_sum (a ∷ []) = 0
square_sum (a ∷ b ∷ rest) = square_of a b + square_sum (b ∷ rest)

-- A choice is best: no other has fewer stitches, and none with as few has a smaller sum of squares.
pub record IsBestChoice (stays : Point
    → Bool) (rule : SpacingRule) (kept points : List Point) : Type 0 where
  pub chosen : IsChoice stays rule kept points
  pub fewest : (other : List Point) → IsChoice stays rule other points
      → stitch_count kept ≤ stitch_count other
  pub most_even : (other : List Point) → IsChoice stays rule other points
      → stitch_count other ≡ stitch_count kept
      → square_sum kept ≤ square_sum other
