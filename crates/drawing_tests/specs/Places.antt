-- Points that are given by pairs of numbers.
use Rattle.std.specs.Prelude.{ℤ}
use Rattle.design_model.specs.declared.point.Point.{Point}

-- the point of an x and a y
abbrev pub point_at : ℤ × ℤ → Point
point_at place = record { x = place.0; y = place.1 }
