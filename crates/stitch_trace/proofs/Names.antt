-- Names from elsewhere that several files of these proofs use.
pub use Rattle.std.proofs.Math.Nat.{le-max_left, le-max_right, mul-le-mul_right}
pub use Rattle.std.proofs.Math.Path.{ap₂}
pub use Rattle.std.proofs.lemmas.Bool.{and_parts, both_ways, or_cases, or_left, or_parts, or_right}
pub use Rattle.std.proofs.lemmas.Bool.Decides.{Decides-int_eq, nat_tests}
pub use Rattle.std.proofs.lemmas.Grind.{div_ceil_times, flat_map-append}
pub use Rattle.std.proofs.lemmas.List.{at_drop_all, at_drop_more, length-take, length_push, map-append}
pub use Rattle.std.proofs.lemmas.List.Folds.{list_all-append, list_any-append}
pub use Rattle.std.specs.HashSet.{HashSet, contains}
pub use Rattle.std.specs.List.{list_all, list_any, onto_first, position_or_len, slice_split}
pub use Rattle.design_model.proofs.CallerLemmas.{point_itself, same_is}
pub use Rattle.design_model.specs.ActKinds.{act_point, is_bare_stop, is_stop, needle_point}
pub use Rattle.design_model.specs.Acts.{acts_from, acts_of}
pub use Rattle.design_model.specs.Blocks.{blocks_of, with_act_in_first_block}
pub use Rattle.design_model.specs.Designs.{DesignValue, thread_of}
pub use Rattle.design_model.specs.Points.{is_point_within, is_same_point, move_between, move_size}
pub use Rattle.design_model.specs.declared.act.Act.{Act}
pub use Rattle.design_model.specs.declared.act.NumberedAct.{NumberedAct}
pub use Rattle.design_model.specs.declared.command.Command.{Command}
pub use Rattle.design_model.specs.declared.point.Point.{Point}
pub use Rattle.line_graph.specs.Drawings.{DrawingValue, last_point}
pub use Rattle.line_graph.specs.GrowingDrawings.{all_in_needle_range, and_then, block_added, empty_drawing, finished_drawing}
pub use Rattle.line_graph.specs.GrowingDrawings.{has_repeated_point, is_last_empty, line_added, point_count, repeats_after, step_count}
pub use Rattle.line_graph.specs.GrowingDrawings.{steps_with_line, with_new_block, with_new_line}
pub use Rattle.line_graph.specs.JoinedDrawings.{joined_drawing}
pub use Rattle.line_graph.specs.Needles.{segment_steps, steps_of_line}
pub use Rattle.line_graph.specs.declared.draw_kind.DrawKind.{DrawKind}
pub use Rattle.line_sections.specs.Lines.{LineValue}
pub use Rattle.line_sections.specs.Sections.{SectionsKeepSegments, all_sections, is_shared_point, line_sections, lines_through, sections_of}
pub use Rattle.line_sections.specs.Sections.{segments_from, segments_of}
pub use Rattle.design_model.proofs.ListLemmas.{and_false, no_difference, some_same}
pub use Rattle.step_splitter.specs.Chains.{last_point_or}
pub use Rattle.step_splitter.specs.Steps.{steps_of}
pub use Rattle.stitch_trace.specs.Chains.{chains_of, has_links, is_gap, is_sewn, new_links_of, new_moves, new_moves_of, points_through}
pub use Rattle.stitch_trace.specs.Links.{first_too_long, is_same_directed_link, is_same_link, link_size, links_in, longest, move_to_act}
pub use Rattle.stitch_trace.specs.Links.{needle_moves_from, needle_moves_of, reversed_link}
pub use Rattle.stitch_trace.specs.TraceTheorems.{BlockLink, CountsAreLimits, IsCountLimit, LinksAreDrawn, LinksAreSteps}
pub use Rattle.stitch_trace.specs.TraceTheorems.{NewLinksAreDistinct, are_distinct, drawn_block_count, drawn_links, in_block, is_one_step}
pub use Rattle.stitch_trace.specs.TraceTheorems.{link_between, links_along, sewn_links}
pub use Rattle.stitch_trace.specs.Traces.{and_then_trace, chains_added, drawing_with_strands, is_space, label_first_word, step_or_fault}
pub use Rattle.stitch_trace.specs.Traces.{strand_added, strand_of, strands_added, strands_from, strands_of, trace_step, traced}
pub use Rattle.stitch_trace.specs.Traces.{with_limit_fault}
pub use Rattle.stitch_trace.specs.Tracing.{chain_if_any, chains_after, extended_chain, max_size_after, new_moves_by}
pub use Rattle.stitch_trace.specs.declared.links.Link.{Link}
pub use Rattle.stitch_trace.specs.declared.needle_moves.NeedleMove.{NeedleMove}
pub use Rattle.stitch_trace.specs.declared.needle_moves.NeedleMove.TheVariants.{Gap, Sewn, Stay}
pub use Rattle.stitch_trace.specs.declared.strands.Strand.{Strand}
pub use Rattle.stitch_trace.specs.declared.trace_fault.TraceFault.{TraceFault}
