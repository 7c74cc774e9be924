-- Lines in colour blocks as contracts see them. Indexes of blocks count from 0.
use Rattle.std.specs.Prelude.{ℕ, ◌==◌, ◌&&◌, Bool, true, false, List, [], ◌∷◌}
use Rattle.std.specs.List.{flat_map}
use Rattle.design_model.specs.declared.point.Point.{Point}
use Rattle.design_model.specs.Points.{is_same_point}

-- A line: the index of its block, and its points.
pub record LineValue : Type 0 where
  pub block : ℕ
  pub points : List Point

-- The points of lines, in order.
abbrev pub points_of_lines : List LineValue → List Point
points_of_lines lines = flat_map (λ line. line.points) lines

-- Two lists have the same points.
abbrev pub are_same_points : List Point → List Point → Bool
are_same_points [] [] = true
are_same_points [] (q ∷ qs) = false
are_same_points (p ∷ ps) [] = false
are_same_points (p ∷ ps) (q ∷ qs) = is_same_point p q && are_same_points ps qs

-- Two lines are in one block and have the same points.
abbrev pub is_same_line : LineValue → LineValue → Bool
is_same_line a b = a.block == b.block && are_same_points a.points b.points
