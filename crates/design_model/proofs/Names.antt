-- Names from elsewhere that several files of these proofs use.
pub use Rattle.std.proofs.lemmas.Bool.{and_from, and_parts}
pub use Rattle.std.proofs.lemmas.Bool.Decides.{Decides-int_eq, nat_tests}
pub use Rattle.std.specs.List.{list_all}
pub use Rattle.std.specs.Prelude.{Result, count_by, fold, if◌then◌else◌, ◌≤ℤ◌}
pub use Rattle.design_model.specs.ActPositions.{is_act_in_range, leaves_thread_loose, needle_position_after}
pub use Rattle.design_model.specs.Acts.{acts_along, acts_from, acts_without_numbers, numbered, numbered_act_list}
pub use Rattle.design_model.specs.Blocks.{blocks_of, continued_block_counts, needles_by_block, with_act_in_first_block}
pub use Rattle.design_model.specs.Blocks.{with_needles_in_first_block}
pub use Rattle.design_model.specs.Commands.{command_accepts_point, command_with_point, is_command_in_range, target_of}
pub use Rattle.design_model.specs.Counts.{counts_of_commands, total_of_counts, with_acts}
pub use Rattle.design_model.specs.Designs.{DesignValue, KeepsLimits, Pushes, thread_of, with_command}
pub use Rattle.design_model.specs.Extents.{IsExtentOrNone, IsMaximum, IsMinimum, extent_height, extent_of_points, extent_width}
pub use Rattle.design_model.specs.Extents.{grown_optional_extent, needle_points_of_acts, x_coordinates, y_coordinates}
pub use Rattle.design_model.specs.Labels.{IsLabel, IsPrintable}
pub use Rattle.design_model.specs.Points.{is_point_within, is_same_point, move_between, move_size}
pub use Rattle.design_model.specs.declared.act.Act.{Act}
pub use Rattle.design_model.specs.declared.act.NumberedAct.{NumberedAct}
pub use Rattle.design_model.specs.declared.command.Command.{Command}
pub use Rattle.design_model.specs.declared.command.Command.TheVariants.{Jump, Stitch}
pub use Rattle.design_model.specs.declared.point.Point.{Point}
