-- Relations between consecutive points. Lengths are in whole tenths of a millimetre.
use Rattle.std.specs.Prelude.{◌≡◌, ◌≢◌, ℕ, ◌≤◌, List, [], ◌∷◌, length, All, IsTrue}
use Rattle.design_model.specs.declared.point.Point.{Point}
use Rattle.design_model.specs.declared.point.TheConstants.{NEEDLE_LIMIT}
use Rattle.design_model.specs.Points.{is_point_within, move_between}
use Rattle.step_splitter.specs.Steps.{split_points, steps_of}

-- Each point lies within the limit of the one before it, on each axis. The point before the first
-- is p.
abbrev pub AreCloseAfter : ℕ → Point → List Point → Type 0
AreCloseAfter limit p [] = Unit {0}
AreCloseAfter limit p (q ∷ rest) = IsTrue (is_point_within limit (move_between p q))
    × AreCloseAfter limit q rest

-- Each point differs from the one before it. The point before the first is p.
abbrev pub HasNoRepeatAfter : Point → List Point → Type 0
HasNoRepeatAfter p [] = Unit {0}
HasNoRepeatAfter p (q ∷ rest) = (p ≢ q) × HasNoRepeatAfter q rest

-- The last point of a list, or p for an empty list.
abbrev pub last_point_or : Point → List Point → Point
last_point_or p [] = p
last_point_or p (q ∷ rest) = last_point_or q rest

-- A point that the needle can reach.
abbrev pub IsNeedlePoint : Point → Type 0
IsNeedlePoint p = IsTrue (is_point_within NEEDLE_LIMIT p)

-- Points lead from p to q by as few steps as possible, each at most as long as the given step on
-- each axis.
pub record LeadsBySteps (p q : Point) (step : ℕ) (points : List Point) : Type 0 where
  pub count : length points ≡ steps_of p q step
  pub some : 1 ≤ length points
  pub close : AreCloseAfter step p points
  pub moving : HasNoRepeatAfter p points
  pub in_range : All IsNeedlePoint points
  pub last : last_point_or p points ≡ q

-- The points at which a segment is split lead from its start to its end.
abbrev pub SplitPointsLead : Type 0
SplitPointsLead = (p q : Point) (step : ℕ) → p ≢ q → IsNeedlePoint p → IsNeedlePoint q → 1 ≤ step
    → LeadsBySteps p q step (split_points p q step)
