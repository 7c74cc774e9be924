-- Names from elsewhere that several files of these proofs use.
pub use Rattle.std.proofs.Math.Path.{ap₂}
pub use Rattle.std.proofs.lemmas.Bool.{and_parts, cases_lt}
pub use Rattle.std.proofs.lemmas.Bool.Decides.{eqb_tells, nat_tests}
pub use Rattle.std.specs.List.{list_all, position_from, range_with_len}
pub use Rattle.std.specs.Prelude.{if◌then◌else◌, slice_get, ◌==◌, ◌⊎◌}
pub use Rattle.design_edits.specs.Colours.{IsRecolourResult, Recolours, colour_place_count, recoloured, threads_from, threads_up_to}
pub use Rattle.design_edits.specs.Inverses.{FourQuarterTurnsRestore, OppositeShiftRestores, TwoMirroringsRestore}
pub use Rattle.design_edits.specs.Motions.{motion_map}
pub use Rattle.design_edits.specs.Moves.{first_out_of_range, mirror_point, mirrored, shift_point, shifted, turn_point, turned}
pub use Rattle.design_edits.specs.Moves.{with_mapped_point, with_mapped_points}
pub use Rattle.design_edits.specs.declared.axis.Axis.{Axis}
pub use Rattle.design_model.specs.Commands.{is_command_in_range, target_of}
pub use Rattle.design_model.specs.Designs.{DesignValue, KeepsLimits, thread_of, with_command_at, with_thread, with_thread_at}
pub use Rattle.design_model.specs.Points.{is_point_within}
pub use Rattle.design_model.specs.declared.command.Command.{Command}
pub use Rattle.design_model.specs.declared.command.Command.TheVariants.{Jump, Stitch, Stop, Trim}
pub use Rattle.design_model.specs.declared.point.Point.{Point}
pub use Rattle.design_model.proofs.ListLemmas.{back-there, neg-neg, size-neg}
