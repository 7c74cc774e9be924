-- The needle points of a line of straight segments at a longest step, in whole tenths of a
-- millimetre. Costs count steps.
use Rattle.std.specs.Prelude.{ℕ, ◌+◌, List, [], ◌∷◌, ◌++◌}
use Rattle.design_model.specs.declared.point.Point.{Point}
use Rattle.step_splitter.specs.Steps.{split_points, steps_of}

-- The needle points along the segments from p through the given points, without p itself.
abbrev pub segment_points : ℕ → Point → List Point → List Point
segment_points step p [] = []
segment_points step p (q ∷ rest) = split_points p q step ++ segment_points step q rest

-- The needle points of a line: its first point, and those along its segments in order.
abbrev pub needle_points : ℕ → List Point → List Point
needle_points step [] = []
needle_points step (p ∷ rest) = p ∷ segment_points step p rest

-- The number of steps along the segments from p through the given points.
abbrev pub segment_steps : ℕ → Point → List Point → ℕ
segment_steps step p [] = 0
segment_steps step p (q ∷ rest) = steps_of p q step + segment_steps step q rest

-- The number of steps of a line: the sum over its segments.
abbrev pub steps_of_line : ℕ → List Point → ℕ
steps_of_line step [] = 0
steps_of_line step (p ∷ rest) = segment_steps step p rest
