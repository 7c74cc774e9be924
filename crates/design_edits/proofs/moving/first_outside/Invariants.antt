use Rattle.std.proofs.Common.{◌≡◌, ◌+◌, not, IsTrue, drop, map}
use Rattle.design_edits.proofs.Names.{list_all, position_from, is_command_in_range, motion_map, first_out_of_range, with_mapped_point}
use Rattle.design_edits.proofs.moving.first_outside.Given as goal

-- None of the commands so far is out of range: the first is among the remaining ones.
abbrev pub invariant-loop-command : goal.invariant-loop-command
invariant-loop-command l = record {
  number : l.number ≡ l.command-index;
  in_range : IsTrue (list_all is_command_in_range (drop l.command-index l.commands));
  first : position_from (λ c. not (is_command_in_range c)) (l.number + 1)
      (map (with_mapped_point (motion_map l.motion)) (drop l.command-index l.commands))
      ≡ first_out_of_range (map (with_mapped_point (motion_map l.motion)) l.commands);
}
