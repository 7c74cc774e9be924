-- Names from elsewhere that several files of these proofs use.
pub use Rattle.std.proofs.Math.Nat.{add-mul-div_left, div-eq_of_lt, div-mul-le_self, le-max_left, le-max_right, max-le, mul-le-mul_right}
pub use Rattle.std.proofs.Math.Nat.{zero-div}
pub use Rattle.std.proofs.lemmas.Bool.Decides.{nat_tests}
pub use Rattle.std.proofs.lemmas.Grind.{div_ceil_times}
pub use Rattle.std.proofs.lemmas.Int.{by_lt_z, ints, to_z-of_z}
pub use Rattle.std.proofs.lemmas.List.{length-append}
pub use Rattle.std.proofs.lemmas.List.FromFn.{get_or-map-range_with_len, length-map-range_with_len, map-range_with_len_more}
pub use Rattle.std.specs.List.{list_all, range_with_len}
pub use Rattle.std.specs.Prelude.{if◌then◌else◌}
pub use Rattle.design_model.proofs.CallerLemmas.{same_point, within_from, within_parts}
pub use Rattle.design_model.specs.ActScanners.{acts_after}
pub use Rattle.design_model.specs.Acts.{acts_along, acts_from, acts_of, acts_without_numbers}
pub use Rattle.design_model.specs.Designs.{DesignValue}
pub use Rattle.design_model.specs.Points.{is_point_within, move_between, move_size, origin}
pub use Rattle.design_model.specs.declared.act.Act.{Act}
pub use Rattle.design_model.specs.declared.act.NumberedAct.{NumberedAct}
pub use Rattle.design_model.specs.declared.command.Command.{Command}
pub use Rattle.design_model.specs.declared.design.TheConstants.{MAX_COMMANDS}
pub use Rattle.design_model.specs.declared.point.Point.{Point}
pub use Rattle.step_splitter.specs.Chains.{AreCloseAfter, HasNoRepeatAfter, IsNeedlePoint, LeadsBySteps, last_point_or}
pub use Rattle.step_splitter.specs.RefitSteps.{AddsRefitCommands, IsRefitState, RefuseActs}
pub use Rattle.step_splitter.specs.Refits.{AreNearActs, IsFirstOverLimit, MeetsRefitGoal, Refits, commands_of_act, commands_of_acts}
pub use Rattle.step_splitter.specs.Refits.{is_near_act, is_no_float, needles_at, refitted_act, refitted_acts, refitted_commands}
pub use Rattle.step_splitter.specs.Refits.{refitted_design, refitted_from}
pub use Rattle.step_splitter.specs.Steps.{coordinate_on_segment, floor_quotient, point_on_segment, split_points, steps_of}
pub use Rattle.step_splitter.specs.declared.refitting.RefitMode.{RefitMode}
