-- The table of the best choices of points, from the last point of a line to its first. A choice
-- from a point on has a first stitch and is best from the end of that one on.
use Rattle.std.specs.Prelude.{ℕ, zero, suc, ◌+◌, ◌*◌, ◌^◌, ◌≤◌, ◌==◌, min, Bool, true, ◌&&◌, ◌||◌, ◌<◌, ◌≡◌, nat_lt, List, [], ◌∷◌, ◌++◌, drop, get_or, length, take, if◌then◌else◌}
use Rattle.design_model.specs.Lengths.{square_of}
use Rattle.design_model.specs.Points.{origin}
use Rattle.design_model.specs.declared.point.Point.{Point}
use Rattle.spaced_lines.specs.SpacingRules.{may_leave_out}
use Rattle.spaced_lines.specs.declared.best.Best.{Best}
use Rattle.spaced_lines.specs.declared.spacing_rule.SpacingRule.{SpacingRule}
use Rattle.spaced_lines.specs.declared.spacing_rule.TheConstants.{MAX_LEFT_OUT}

-- One choice is better than another: it has fewer stitches, or as many and a smaller sum.
abbrev pub is_better : Best → Best → Bool
is_better a b =
    nat_lt a.stitches b.stitches || (a.stitches == b.stitches && nat_lt a.squares b.squares)

-- The choice of one point.
abbrev pub no_stitch : Best
no_stitch = record { stitches = 0; squares = 0; left_out = 0 }

-- A choice from b on, with a stitch before it that leads from p to b and leaves out points.
abbrev pub best_with : (p b : Point) → ℕ → Best → Best
best_with p b left_out best = record {
  stitches = best.stitches + 1;
  squares = best.squares + square_of p b;
  left_out = left_out;
}

module _ (stays : Point → Bool) (rule : SpacingRule) where
  -- The choice whose first stitch leads from p to b and leaves out the given points, where it is
  -- allowed and better than another one, and else that one.
  abbrev pub better_with : (p : Point) → List Point → (b : Point) → (from other : Best) → Best
  better_with p out b from other =
      if is_better (best_with p b (length out) from) other && may_leave_out stays rule p out b
      then best_with p b (length out) from else other

  -- The best of one choice from p on and of those that leave out the given points, and perhaps
  -- more, before the first stitch ends.
  abbrev pub best_over : (p : Point) → Best → List Point → List Point → List Best → Best
  best_over p nearest out [] bests = nearest
  best_over p nearest out (b ∷ rest) [] = nearest
  best_over p nearest out (b ∷ rest) (from ∷ later) =
      better_with p out b from (best_over p nearest (out ++ b ∷ []) rest later)

  -- The best of one choice from p on and of those that leave out at least n points.
  abbrev pub best_leaving : (p : Point) → Best → List Point → List Best → (n : ℕ) → Best
  best_leaving p nearest after bests n =
      best_over p nearest (take n after) (drop n after) (drop n bests)

  -- The best choice from p on, where the best ones from the points after it on are given.
  abbrev pub best_from : (p : Point) → List Point → List Best → Best
  best_from p [] bests = no_stitch
  best_from p (b ∷ rest) [] = no_stitch
  best_from p (b ∷ rest) (from ∷ later) = best_over p (best_with p b 0 from) (b ∷ []) rest later

  -- The table with the best choice from p on.
  abbrev pub with_best_from : (p : Point) → List Point → List Best → List Best
  with_best_from p rest bests = best_from p rest bests ∷ bests

  -- The table: the best choice from each point of a line on.
  abbrev pub bests_of : List Point → List Best
  bests_of [] = []
  bests_of (p ∷ rest) = with_best_from p rest (bests_of rest)

-- The points that the choices of a table keep, after a number of points that are left out.
abbrev pub kept_by : ℕ → List Point → List Best → List Point
kept_by left [] bests = []
kept_by left (p ∷ rest) [] = []
kept_by zero (p ∷ rest) (best ∷ later) = p ∷ kept_by best.left_out rest later
kept_by (suc left) (p ∷ rest) (best ∷ later) = kept_by left rest later

-- The number of points that may be left out from one on that stays or not, where those after it are
-- counted.
abbrev pub room_after : Bool → ℕ → ℕ
room_after stays room = if stays then 0 else min (room + 1) MAX_LEFT_OUT

-- The number of points at the start of a list that may be left out: none of them stays, and they
-- are not too many.
abbrev pub room_of : (Point → Bool) → List Point → ℕ
room_of stays [] = 0
room_of stays (p ∷ rest) = room_after (stays p) (room_of stays rest)

-- The choice whose first stitch leads from p to the point with an index, and leaves out those
-- before it.
abbrev pub choice_at : (p : Point) → List Point → List Best → ℕ → Best
choice_at p after bests k = best_with p (get_or after k origin) k (get_or bests k no_stitch)

-- A choice is better than another one, and than all that leave out more points, up to n.
pub record IsChainEnd (p : Point) (after : List Point) (bests : List Best) (n : ℕ) (other : Best)
    (end : ℕ) : Type 0 where
  pub than_other : is_better (choice_at p after bests end) other ≡ true
  pub than_each : (k : ℕ) → end < k → k ≤ n
      → is_better (choice_at p after bests end) (choice_at p after bests k) ≡ true

-- The numbers of a choice with at most n stitches.
pub record IsWithin (n : ℕ) (best : Best) : Type 0 where
  pub few : best.stitches ≤ n
  pub short : best.squares ≤ n * 2 ^ 65
