use Rattle.std.proofs.Common.{◌≡◌, ◌+◌, drop, map}
use Rattle.edited_designs.proofs.Names.{design_change, edited_in_order}
use Rattle.edited_designs.proofs.in_order.edit_in_order.Given as goal

-- the edits that are left make of the design so far what all make of the first
abbrev pub invariant-loop-edit : goal.invariant-loop-edit
invariant-loop-edit l = record {
  number : l.number ≡ l.edit-index + 1;
  goes : edited_in_order l.number (map design_change (drop l.edit-index l.edits)) l.edited
      ≡ edited_in_order 1 (map design_change l.edits) l.fn.design;
}
