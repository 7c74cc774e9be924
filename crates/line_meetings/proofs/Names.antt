-- Names from elsewhere that several files of these proofs use.
pub use Rattle.std.proofs.lemmas.Bool.{and_left, lt-ltb, ltb-true, not_from_true}
pub use Rattle.std.proofs.lemmas.Bool.Decides.{nat_tests}
pub use Rattle.std.specs.List.{flat_map}
pub use Rattle.std.specs.Slice.Iter.{chunks_rest}
pub use Rattle.drawing_review.specs.declared.segment.LineSegment.{LineSegment}
pub use Rattle.line_meetings.specs.declared.bounds.Bounds.{Bounds}
pub use Rattle.line_meetings.specs.declared.indexed_part.IndexedPart.{IndexedPart}
pub use Rattle.line_meetings.specs.Bounds.{AreAllWithin, AreWithin, are_bounds_apart, bounds_of, united_bounds}
pub use Rattle.line_meetings.specs.IndexedParts.{matching_indexes}
pub use Rattle.line_meetings.specs.Parts.{all_points, all_segments, is_line_end, parts_of_lines}
pub use Rattle.line_meetings.specs.Parts.{points_after, segment_parts, segments_after}
pub use Rattle.line_meetings.specs.Queries.{answers_query, query_bounds}
pub use Rattle.line_meetings.specs.Touches.{least_near}
