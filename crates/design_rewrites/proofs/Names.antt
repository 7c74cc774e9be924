-- Names from elsewhere that several files of these proofs use.
pub use Rattle.std.proofs.lemmas.Bool.Decides.{nat_tests}
pub use Rattle.design_model.specs.Acts.{acts_along, acts_from, acts_of, acts_without_numbers}
pub use Rattle.design_model.specs.Designs.{DesignValue}
pub use Rattle.design_model.specs.declared.act.Act.{Act}
pub use Rattle.design_model.specs.declared.command.Command.{Command}
pub use Rattle.design_rewrites.specs.OrderedActs.{are_in_order, can_follow_loose_thread}
pub use Rattle.step_splitter.specs.Refits.{commands_of_act, commands_of_acts}
