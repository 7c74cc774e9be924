use Rattle.std.proofs.Common.{◌≡◌, drop}
use Rattle.std.specs.List.{list_all}
use Rattle.edited_designs.specs.EditArguments.{is_label_byte}
use Rattle.edited_designs.proofs.edit_arguments.are_printable.Given as goal

-- the bytes that are left decide
abbrev pub invariant-loop-byte : goal.invariant-loop-byte
invariant-loop-byte l = list_all is_label_byte (drop l.byte-index l.label) ≡ list_all is_label_byte l.label
