-- The steps of a segment, in whole tenths of a millimetre. Own rule: a segment has as few steps as
-- the longest step allows on each axis. The steps have equal lengths, before their ends are rounded
-- down on each axis.
use Rattle.std.specs.Prelude.{ℕ, ℤ, pos, negsuc, ◌/◌, ◌+ℤ◌, ◌-ℤ◌, ◌*ℤ◌, List, map}
use Rattle.std.specs.Int.{div_ceil}
use Rattle.std.specs.List.{range_with_len}
use Rattle.design_model.specs.declared.point.Point.{Point}
use Rattle.design_model.specs.Points.{move_between, move_size}

-- The quotient of an integer, rounded down.
abbrev pub floor_quotient : ℤ → ℕ → ℤ
floor_quotient (pos n) by = pos (n / by)
floor_quotient (negsuc n) by = negsuc (n / by)

-- The number of steps from p to q: the longer axis of the segment divided by the longest step,
-- rounded up.
abbrev pub steps_of : Point → Point → ℕ → ℕ
steps_of p q step = div_ceil (move_size (move_between p q)) step

-- The coordinate that divides the way from one number to another after i of n equal parts, rounded
-- down.
abbrev pub coordinate_on_segment : ℤ → ℤ → ℕ → ℕ → ℤ
coordinate_on_segment from to n i = from +ℤ floor_quotient (pos i *ℤ (to -ℤ from)) n

-- The point that divides the segment from p to q after i of n equal parts, rounded down on each
-- axis.
abbrev pub point_on_segment : Point → Point → ℕ → ℕ → Point
point_on_segment p q n i = record {
  x = coordinate_on_segment p.x q.x n i;
  y = coordinate_on_segment
      p.y q.y n i;
}

-- The ends of the steps from p to q in order. The list has q as its last point, and not p.
abbrev pub split_points : Point → Point → ℕ → List Point
split_points p q step =
    let n = steps_of p q step in map (λ i. point_on_segment p q n i) (range_with_len 1 n)
