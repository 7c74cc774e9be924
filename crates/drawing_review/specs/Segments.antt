-- The segment between two points. Indexes and numbers count from 0.
use Rattle.design_model.specs.declared.point.Point.{Point}
use Rattle.drawing_review.specs.declared.segment.Position.{Position}
use Rattle.drawing_review.specs.declared.segment.LineSegment.{LineSegment}
use Rattle.drawing_review.specs.Frames.{frame_between, grid_point}

-- The segment between two points, at a position among all segments.
abbrev pub drawn_segment : Position → Point → Point → LineSegment
drawn_segment at from to = record {
  block = at.block;
  line = at.line;
  number = at.number;
  is_first = at.is_first;
  is_last = at.is_last;
  from = from;
  to = to;
  a = grid_point from;
  b = grid_point to;
  frame = frame_between (grid_point from) (grid_point to);
}
