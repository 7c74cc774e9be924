-- Names from elsewhere that several files of these proofs use.
pub use Rattle.format_traits.specs.Meanings.{Meaning}
pub use Rattle.format_traits.proofs.CallerLemmas.{same_format}
pub use Rattle.program_shell.proofs.CallerLemmas.{fault_refused, settles_taken}
pub use Rattle.program_shell.specs.StepOutcomes.{RunsPurePlan}
pub use Rattle.design_commands.specs.EditOrders.{DesignEditOrder, design_edit_order, design_edit_read, edited_design_plan}
pub use Rattle.edited_designs.specs.EditArguments.{changes_of}
pub use Rattle.edited_designs.specs.EditedInOrder.{bad_design_edit_is_out_of_memory, edited_in_order}
