-- Worked values of coordinates, frames, points near a segment, and crossings.
use Rattle.std.proofs.Common.{◌≡◌, ℕ, pos, negsuc, true, false, refl}
use Rattle.design_model.specs.declared.point.Point.{Point}
use Rattle.drawing_review.specs.declared.frame.Frame.{Frame}
use Rattle.drawing_review.specs.declared.segment.LineSegment.{LineSegment}
use Rattle.drawing_review.specs.Frames.{are_apart, frame_around, frame_between, grid_coordinate, grid_point}
use Rattle.drawing_review.specs.Meetings.{cross_inside, is_near, is_same_grid_point}
use Rattle.drawing_review.specs.Segments.{drawn_segment}

abbrev at : ℕ → ℕ → Point
at x y = record { x = pos x; y = pos y }

abbrev from_to : Point → Point → LineSegment
from_to p q = drawn_segment (record { block = 0; line = 0; number = 0; is_first = true; is_last = true }) p q

pub known_coordinates : (grid_coordinate (negsuc 29999) ≡ 0) × (grid_coordinate (negsuc 0) ≡ 29999)
    × (grid_coordinate (pos 0) ≡ 30000) × (grid_coordinate (pos 30000) ≡ 60000) × (grid_coordinate (pos 40000) ≡ 60000)
known_coordinates = (refl, refl, refl, refl, refl)

abbrev frame_from : Point → Point → Frame
frame_from p q = frame_between (grid_point p) (grid_point q)

-- frames that share a side or a corner aren't apart
pub known_frames : (are_apart (frame_from (at 0 0) (at 9 4)) (frame_from (at 9 8) (at 12 4)) ≡ false)
    × (are_apart (frame_from (at 0 0) (at 9 4)) (frame_from (at 10 0) (at 12 4)) ≡ true)
    × (are_apart (frame_around 2 (grid_point (at 5 7))) (frame_from (at 0 4) (at 9 0)) ≡ true)
    × (are_apart (frame_around 3 (grid_point (at 5 7))) (frame_from (at 0 4) (at 9 0)) ≡ false)
known_frames = (refl, refl, refl, refl)

-- on a segment, beyond its end, and beside a slanted one, where only the corner of a square of 5 meets it
pub known_near : (is_near 0 (grid_point (at 20 10)) (from_to (at 0 0) (at 40 20)) ≡ true)
    × (is_near 0 (grid_point (at 20 11)) (from_to (at 0 0) (at 40 20)) ≡ false)
    × (is_near 2 (grid_point (at 42 22)) (from_to (at 0 0) (at 40 20)) ≡ true)
    × (is_near 2 (grid_point (at 43 20)) (from_to (at 0 0) (at 40 20)) ≡ false)
    × (is_near 4 (grid_point (at 25 15)) (from_to (at 0 0) (at 40 40)) ≡ false)
    × (is_near 5 (grid_point (at 25 15)) (from_to (at 0 0) (at 40 40)) ≡ true)
    -- four across and one down: 40 * 7 - 10 * 18 is 2 * (40 + 10), and one step further left is beyond it
    × (is_near 2 (grid_point (at 18 7)) (from_to (at 0 0) (at 40 10)) ≡ true)
    × (is_near 2 (grid_point (at 17 7)) (from_to (at 0 0) (at 40 10)) ≡ false)
known_near = (refl, refl, refl, refl, refl, refl, refl, refl)

-- through the inside of both, through an end, and along each other
pub known_crossings : (cross_inside (from_to (at 0 0) (at 10 10)) (from_to (at 0 10) (at 9 0)) ≡ true)
    × (cross_inside (from_to (at 0 10) (at 9 0)) (from_to (at 10 10) (at 0 0)) ≡ true)
    × (cross_inside (from_to (at 0 0) (at 10 10)) (from_to (at 5 5) (at 9 0)) ≡ false)
    × (cross_inside (from_to (at 0 0) (at 10 10)) (from_to (at 0 10) (at 4 6)) ≡ false)
    × (cross_inside (from_to (at 0 0) (at 10 0)) (from_to (at 5 0) (at 15 0)) ≡ false)
known_crossings = (refl, refl, refl, refl, refl)

-- each part of a segment, with the line's first mark and not its last
pub known_segment : drawn_segment
    (record { block = 3; line = 5; number = 7; is_first = true; is_last = false }) (at 1 9) (at 4 2)
    ≡ record {
      block = 3;
      line = 5;
      number = 7;
      is_first = true;
      is_last = false;
      from = at 1 9;
      to = at 4 2;
      a = record { x = 30001; y = 30009 };
      b = record { x = 30004; y = 30002 };
      frame = record { left = 30001; right = 30004; top = 30002; bottom = 30009 };
    }
known_segment = refl

-- points of one row or one column differ
pub known_same : (is_same_grid_point (grid_point (at 3 5)) (grid_point (at 3 5)) ≡ true)
    × (is_same_grid_point (grid_point (at 3 5)) (grid_point (at 4 5)) ≡ false)
    × (is_same_grid_point (grid_point (at 3 5)) (grid_point (at 3 6)) ≡ false)
known_same = (refl, refl, refl)
