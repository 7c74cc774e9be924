-- Points with coordinates that are never negative, and frames: rectangles with sides along the
-- axes. Lengths are whole tenths of a millimetre.
use Rattle.std.specs.Prelude.{ℕ, ℤ, pos, negsuc, ◌+◌, ◌-◌, min, max, Bool, ◌||◌, nat_lt}
use Rattle.design_model.specs.declared.point.Point.{Point}
use Rattle.drawing_review.specs.declared.frame.Frame.{Frame}
use Rattle.drawing_review.specs.declared.grid_point.GridPoint.{GridPoint}

-- A coordinate, counted from the least one that a needle reaches, -30,000. One beyond 30,000 counts
-- as the limit.
abbrev pub grid_coordinate : ℤ → ℕ
grid_coordinate (pos n) = 30000 + min n 30000
grid_coordinate (negsuc n) = 30000 - min (n + 1) 30000

-- A point with both coordinates counted so.
abbrev pub grid_point : Point → GridPoint
grid_point p = record { x = grid_coordinate p.x; y = grid_coordinate p.y }

-- The least frame of two points.
abbrev pub frame_between : GridPoint → GridPoint → Frame
frame_between p q = record {
  left = min p.x q.x;
  right = max p.x q.x;
  top = min p.y q.y;
  bottom = max p.y q.y;
}

-- The square around a point whose sides are the gap away from it.
abbrev pub frame_around : ℕ → GridPoint → Frame
frame_around gap p =
    record { left = p.x - gap; right = p.x + gap; top = p.y - gap; bottom = p.y + gap }

-- Two frames are apart: no point is in both.
abbrev pub are_apart : Frame → Frame → Bool
are_apart a b = nat_lt a.right b.left || (nat_lt b.right a.left
    || (nat_lt a.bottom b.top || nat_lt b.bottom a.top))
