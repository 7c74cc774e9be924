-- Names from elsewhere that several files of these proofs use.
pub use Rattle.std.proofs.lemmas.Bool.Decides.{nat_tests}
pub use Rattle.std.specs.List.{filter_map, list_any, range_with_len}
pub use Rattle.std.specs.Prelude.{if◌then◌else◌}
pub use Rattle.std.proofs.Math.Nat.{le-max_left, le-max_right}
pub use Rattle.std.proofs.lemmas.Int.{ints}
pub use Rattle.design_model.specs.ActKinds.{act_point}
pub use Rattle.design_model.specs.Acts.{acts_of, acts_without_numbers}
pub use Rattle.design_model.specs.declared.act.Act.{Act}
pub use Rattle.design_model.specs.declared.point.Point.{Point}
pub use Rattle.design_model.proofs.CallerLemmas.{point_itself, same_is, same_point}
pub use Rattle.design_model.proofs.ListLemmas.{false_true, first_true, no_difference, second_true}
pub use Rattle.design_model.specs.Lengths.{square_of}
pub use Rattle.design_model.specs.Points.{is_same_point, move_between, move_size}
pub use Rattle.step_splitter.specs.Refits.{needles_at}
pub use Rattle.design_rewrites.proofs.CallerLemmas.{acts_next, in_order, order_needles, rewritten_has}
pub use Rattle.design_rewrites.specs.OrderedActs.{are_in_order}
pub use Rattle.design_rewrites.specs.Threads.{is_thread_end, next_needle}
pub use Rattle.sewing_edits.specs.Beans.{bean_points, beaned_from, there_and_back}
pub use Rattle.sewing_edits.specs.CarriedTrims.{are_trims_far, carried_from, is_near_next}
pub use Rattle.sewing_edits.specs.FloatCuts.{are_floats_within, cut_from, cut_if, is_farther}
pub use Rattle.sewing_edits.specs.Merges.{are_long_enough, is_long_enough, is_nearer, merged_from, thread_ends}
