-- Points and moves, in whole tenths of a millimetre; x grows to the right, y downwards.
use Rattle.std.specs.Prelude.{ℕ, Bool, ◌&&◌, ◌-ℤ◌, max, nat_le, unsigned_abs, pos}
use Rattle.std.specs.Ordering.{int_eq}
use Rattle.design_model.specs.declared.point.Point.{Point}

-- The test whether neither coordinate of a point exceeds the limit in absolute value.
abbrev pub is_point_within : ℕ → Point → Bool
is_point_within limit p = nat_le (unsigned_abs p.x) limit && nat_le (unsigned_abs p.y) limit

-- The origin, where every design starts.
abbrev pub origin : Point
origin = record { x = pos 0; y = pos 0 }

-- The move from one point to another.
abbrev pub move_between : Point → Point → Point
move_between p q = record { x = q.x -ℤ p.x; y = q.y -ℤ p.y }

-- The size of a move: the larger of the absolute values of its coordinates.
abbrev pub move_size : Point → ℕ
move_size m = max (unsigned_abs m.x) (unsigned_abs m.y)

-- The test whether two points are equal.
abbrev pub is_same_point : Point → Point → Bool
is_same_point p q = int_eq p.x q.x && int_eq p.y q.y
