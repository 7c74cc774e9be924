-- Names from elsewhere that several files of these proofs use.
pub use Rattle.std.proofs.Math.Nat.{max-le, mod-lt, suc-mul}
pub use Rattle.std.proofs.lemmas.Bool.Decides.{Decides-int_eq, nat_tests}
pub use Rattle.std.proofs.lemmas.List.Elements.{All-append, All-cons, All-nil}
pub use Rattle.std.proofs.lemmas.Nat.{div-add-mod', div-mul-add, mod-mul-add, mul-add-lt, mul-le}
pub use Rattle.std.specs.List.{list_any, range_with_len}
pub use Rattle.design_model.specs.declared.point.Point.{Point}
pub use Rattle.line_graph.specs.Drawings.{DrawingValue}
pub use Rattle.line_graph.specs.GrowingDrawings.{draw_is_out_of_memory, finished_drawing, line_added, point_count, step_count}
pub use Rattle.line_graph.specs.Needles.{steps_of_line}
pub use Rattle.sample_drawings.specs.Draws.{drawn_number, next_state, state_after}
pub use Rattle.sample_drawings.specs.GridLines.{lines_at_cell, lines_in_row}
pub use Rattle.sample_drawings.specs.Grids.{by_index, in_square, moved_junction}
pub use Rattle.sample_drawings.specs.SampleRoom.{HasRoom, IsShortSegment, first_block, with_segments}
pub use Rattle.sample_drawings.specs.Samples.{cell_kind, cells_per_side, diagonals, falls_left, falls_right, grid_junction, junction_draws}
pub use Rattle.sample_drawings.specs.Samples.{junctions_per_side, line_across, line_along, line_down, row_by_row, row_major_index}
pub use Rattle.sample_drawings.specs.Samples.{sample_drawing_of, sample_segments, segment_between, segment_if}
pub use Rattle.sample_drawings.specs.declared.segment.Segment.{Segment}
