-- Names from elsewhere that several files of these proofs use.
pub use Rattle.std.proofs.lemmas.Bool.Decides.{nat_tests}
pub use Rattle.std.specs.Prelude.{is_some}
pub use Rattle.command_words.specs.Arguments.{all_parsed, with_first_edit}
pub use Rattle.design_model.specs.Designs.{DesignValue}
pub use Rattle.edited_designs.specs.DesignChanges.{DesignChange, IsDesignEdit, design_change}
pub use Rattle.edited_designs.specs.EditArguments.{parsed_change, parsed_changes}
pub use Rattle.edited_designs.specs.EditedInOrder.{bad_design_edit_is_out_of_memory, edited_in_order}
pub use Rattle.edited_designs.specs.declared.design_edit.DesignEdit.{DesignEdit}
